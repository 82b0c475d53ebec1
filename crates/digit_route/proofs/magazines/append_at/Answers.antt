use Rattle.std.proofs.Common.{◌≡◌, ◌++◌, ◌∙◌, length, get_or, ap, sym, set, take, drop, append-nil, arith, []}
use Rattle.std.proofs.lemmas.List.{drop_all, get_or_read_under, length-set, take_all}
use Rattle.digit_route.proofs.magazines.append_at.Goals as goal

pub returns : goal.returns
returns c =
    let old = c.args.magazines.now.items in
    let k = c.args.k in
    let new = c.append.new.self in
    let shown : c.deref_mut.result.now ≡ old = c.deref_mut.ensures.value in
    let there : c.index-deref_mut-k.result ≡ get_or old k c.index-deref_mut-k.result = c.index-deref_mut-k.is ∙ ap (λ xs. get_or xs k c.index-deref_mut-k.result) shown in
    let was : c.index-deref_mut-k.result ≡ get_or old k [] = get_or_read_under old k (length old) c.index-deref_mut-k.result [] there c.requires (ap length (sym shown) ∙ ap length shown) in
    let one = set old k new in
    let long : length one ≡ length old = length-set old k new in
    let whole : take (length old) (one ++ drop (length one) old) ≡ one =
    ap (λ l. take (length old) (one ++ l)) (drop_all (length one) old (omega (arith, long))) ∙ (ap (take (length old)) (append-nil one) ∙ take_all (length old) one (omega (arith, long))) in
    (new, rw (sym c.index-deref_mut-k.is, was) at c.append.ensures, ap (λ ds. take (length old) (set ds k new ++ drop (length (set ds k new)) old)) shown ∙ whole)
