-- What the words of the command line may ask for.
use Rattle.std.specs.Prelude.{◌≤◌}
use Rattle.example_decoder_words.specs.declared.asked.Asked as declared

-- 1 to 62 threads that decode, and 32 to 1,024 chunks
pub record IsPossible (asked : declared.Asked) : Type 0 where
  pub a_decoder : 1 ≤ asked.decoders
  pub decoders : asked.decoders ≤ 62
  pub some_chunks : 32 ≤ asked.chunks
  pub chunks : asked.chunks ≤ 1024
