-- A running hash in a record's bytes, both ways, by one layout. Counts stand low byte first, and Y as a block's bytes do. The key is not in it.
-- Assumes nothing.
use Rattle.std.specs.Prelude.{ℕ, Bool, not, ◌&&◌, List, ◌++◌, take, drop, replicate}
use Rattle.octets.specs.LittleEndian.{read_le, le_bytes}
use Rattle.gf128.specs.Bytes.{block_at, block_bytes}
use Rattle.gf128.specs.Running.{State, all_zero, malformed}
use Rattle.ghash_parked.specs.declared.layout.Layout.{Layout}
use Rattle.ghash_parked.specs.Layout.{at_y, at_block, at_count_a, at_count_c, at_phase, at_spare}

-- the bytes of a record: Y, open block, A count, C count, phase, zero bytes
unfoldable pub record_bytes : Layout → State → List ℕ
record_bytes l s =
    block_bytes s.y
    ++ (s.block
    ++ (le_bytes l.count_bytes s.count_a
    ++ (le_bytes l.count_bytes s.count_c
    ++ (le_bytes 1 s.phase
    ++ replicate l.spare_bytes 0))))

-- the fields that a record holds
unfoldable pub state_at : Layout → List ℕ → State
state_at l bytes = record {
  y = block_at bytes at_y;
  block = take 16 (drop at_block bytes);
  count_a = read_le bytes at_count_a l.count_bytes;
  count_c = read_le bytes (at_count_c l) l.count_bytes;
  phase = read_le bytes (at_phase l) 1;
}

-- a record that is taken: its spare bytes are zeros, and what it holds is not malformed by document 01's rule
abbrev pub accepted : Layout → List ℕ → Bool
accepted l bytes = all_zero (drop (at_spare l) bytes) && not (malformed (state_at l bytes))
