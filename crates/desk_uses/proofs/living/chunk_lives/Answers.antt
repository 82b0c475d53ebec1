use Rattle.std.proofs.Common.{◌≡◌, List, [], ◌∷◌, ◌++◌, map, All, ap, sym, ◌∙◌, subst}
use Rattle.std.proofs.lemmas.List.{append-nil}
use Rattle.std.proofs.lemmas.List.Elements.{All-nil, All-cons}
use Rattle.region_cut.specs.Carved.{Carved}
use Rattle.region_cut.specs.Endings.{Ended, EndingsState, HasKnownSlots, ended_chunk}
use Rattle.desk_uses.proofs.LifeLaws.{let_go, slots_known, chunk_ends, here}
use Rattle.desk_uses.proofs.living.chunk_lives.Goals as goal

pub close_chunks-requires : goal.close_chunks-requires
close_chunks-requires c =
    let u = c.used-is_filled.ensures.used in
    let d = c.used-is_filled.result.1 in
    let known = c.end.new.endings.known in
    let chunks : c.end.new.endings.chunks ≡ u.chunk ∷ [] =
    ap (λ (s : EndingsState). s.chunks) c.end.ensures.chunks
    ∙ (ap (λ (s : EndingsState). d.drawn ++ s.chunks) c.new-endings.ensures ∙ (append-nil d.drawn ∙ u.drawn)) in
    let gone = let_go d.home d.cached c.new-endings.result.known known c.end.ensures.known in
    subst (All (HasKnownSlots known)) (sym chunks)
    (All-cons (HasKnownSlots known) u.chunk [] (slots_known known c.agree.ensures c.args.byte c.args.part d.home gone u.chunk c.used-is_filled.result.0 u.slots) (All-nil (HasKnownSlots known)))

pub returns : goal.returns
returns c =
    let u = c.used-is_filled.ensures.used in
    let d = c.used-is_filled.result.1 in
    let known = c.end.new.endings.known in
    let chunks : c.end.new.endings.chunks ≡ u.chunk ∷ [] =
    ap (λ (s : EndingsState). s.chunks) c.end.ensures.chunks
    ∙ (ap (λ (s : EndingsState). d.drawn ++ s.chunks) c.new-endings.ensures ∙ (append-nil d.drawn ∙ u.drawn)) in
    let gone = let_go d.home d.cached c.new-endings.result.known known c.end.ensures.known in
    let ended = chunk_ends known c.agree.ensures c.args.byte c.args.part d.home gone u.chunk c.used-is_filled.result.0 u.whole u.slots in
    here c.close_chunks.new.self.known known _
    (ap (λ (s : EndingsState). s.known) c.close_chunks.ensures
    ∙ (ap (λ (cs : List Carved). map (ended_chunk known) cs ++ known) chunks ∙ ap (λ (e : Ended). e ∷ known) ended))
