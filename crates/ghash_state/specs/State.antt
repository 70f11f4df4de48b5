-- The running hash of the code as a state of document 01.
-- Assumes nothing.
use Rattle.std.specs.Prelude.{◌≡◌, List, ℕ, replicate}
use Rattle.ghash_block.specs.Block.{value_of}
use Rattle.gf128.specs.Running as gf128
use Rattle.gf128.specs.Running.{State}
use Rattle.ghash_state.specs.declared.Running.{Running}
use Rattle.ghash_state.specs.declared.Part.{Part}

abbrev pub view : Running → State
view s =
    record { y = value_of s.y; block = s.open_block; count_a = s.a_count; count_c = s.c_count; phase = s.phase }

-- the spare bytes as every call that is done leaves them. They are no part of the state, and none is malformed for them
abbrev pub spare_zeros : List ℕ
spare_zeros = replicate 7 0

-- a new running hash
abbrev pub Fresh : Running → Type 0
Fresh s = (view s ≡ gf128.fresh) × (s.spare ≡ spare_zeros)

-- Y and the open block
abbrev pub part_of : Part → gf128.Part
part_of p = record { y = value_of p.y; block = p.bytes }

-- the state that holds them
abbrev pub state_of : gf128.Part → ℕ → ℕ → ℕ → State
state_of p count_a count_c phase = record { y = p.y; block = p.block; count_a = count_a; count_c = count_c; phase = phase }

-- those of a state
abbrev pub held : State → gf128.Part
held s = record { y = s.y; block = s.block }

-- Y with no byte open
abbrev pub none_open : ℕ → gf128.Part
none_open y = record { y = y; block = gf128.no_bytes }
