-- Numbers of four bytes.
use Rattle.std.proofs.Common.{ℕ, ◌+◌, ◌<◌, ◌≤◌, List, get_or, arith}
use Rattle.std.proofs.lemmas.List.FromFn.{get_or-map-range_with_len, length-map-range_with_len}
use Rattle.receivers.specs.Blocks.{Reachable, no_block}
use Rattle.receivers.specs.Plans.{word, block_of, blocks_of}

module _ (bytes : List ℕ) (fits : (i : ℕ) → get_or bytes i 0 < 256) where
  word_fits : (i : ℕ) → word bytes i ≤ 4294967295
  word_fits i = omega (arith, fits i, fits (i + 1), fits (i + 2), fits (i + 3))

  pub blocks_reachable : (n : ℕ) → Reachable (blocks_of bytes n)
  blocks_reachable n k h =
      let e = get_or-map-range_with_len (block_of bytes n) 0 n k k no_block (omega (arith, length-map-range_with_len (block_of bytes n) 0 n)) (omega arith) in
      rw e (word_fits _)
