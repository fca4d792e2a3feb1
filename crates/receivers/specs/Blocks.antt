-- Blocks of channels, and where they stand wrong. Assumes nothing.
use Rattle.std.specs.Prelude.{◌≡◌, ℕ, ◌-◌, ◌<◌, ◌≤◌, Bool, false, ◌&&◌, ◌||◌, List, length, Option, nat_le, nat_lt, slice_index_or}
use Rattle.std.specs.List.{find, range_with_len}
use Rattle.commands.specs.Settings.{between}
use Rattle.receivers.specs.declared.blocks.Block.{Block}

-- what stands behind the last block
abbrev pub no_block : Block
no_block = record { first = 0; last = 0 }

-- the block at a place
abbrev pub block_at : List Block → ℕ → Block
block_at blocks k = slice_index_or blocks k no_block

-- a frequency is inside a block
abbrev pub inside : ℕ → Block → Bool
inside frequency block = between block.first block.last frequency

-- a block ends before it begins, or does not begin behind the block before it
abbrev pub misplaced : List Block → ℕ → Bool
misplaced blocks k =
    nat_lt (block_at blocks k).last (block_at blocks k).first ||
    (nat_lt 0 k && nat_le (block_at blocks k).first (block_at blocks (k - 1)).last)

abbrev pub first_misplaced : List Block → Option ℕ
first_misplaced blocks = find (misplaced blocks) (range_with_len 0 (length blocks))

-- no block is misplaced
abbrev pub InOrder : List Block → Type 0
InOrder blocks = (k : ℕ) → k < length blocks → misplaced blocks k ≡ false

-- each block ends at a frequency of at most four bytes
abbrev pub Reachable : List Block → Type 0
Reachable blocks = (k : ℕ) → k < length blocks → (block_at blocks k).last ≤ 4294967295
