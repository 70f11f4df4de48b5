-- Document 02, Ask 5: "With tail agnostic, bytes of the vd group from element vl on are filled with ones bits; with mask agnostic and vm 0,
-- so are elements from vstart to vl−1 whose mask bit is 0. If vstart is at or past vl nothing is written, whatever the policies."
-- Assumes nothing.
use Rattle.std.specs.Prelude.{ℕ, ◌+◌, ◌-◌, ◌*◌, ◌/◌, cond, List, leb, set}
use Rattle.vector_registers.specs.declared.settings.Settings.{Settings}
use Rattle.vector_registers.specs.Settings.{register_bytes, group_length}
use Rattle.vector_word.specs.declared.Fields.{Fields}
use Rattle.vector_element.specs.Element.{element_at, active}
use Rattle.vector_element.specs.Steps.{steps}

-- ones bits in byte p, and in the bytes from `from` to before `to`
abbrev pub ones_at : ℕ → List ℕ → List ℕ
ones_at p file = set file p 255

unfoldable pub ones_between : ℕ → ℕ → List ℕ → List ℕ
ones_between from to file = steps ones_at (to - from) from file

-- in element i of the group at a register
abbrev pub ones_in_element : ℕ → ℕ → ℕ → ℕ → List ℕ → List ℕ
ones_in_element vlen sew register i file = ones_between (element_at vlen sew register i) (element_at vlen sew register i + sew / 8) file

-- element i of vd's group, if it is not active: vm is 0, and so is its mask bit
unfoldable pub mask_step : Fields → Settings → ℕ → List ℕ → List ℕ
mask_step f s i file = cond (active f file i) file (ones_in_element s.vlen s.sew f.vd i file)

-- elements vstart to vl - 1. The mask is not in vd's group (refusal 8), so it stands as at entry
unfoldable pub mask_filled : Fields → Settings → List ℕ → List ℕ
mask_filled f s file = cond s.vma (steps (mask_step f s) (s.vl - s.vstart) s.vstart file) file

-- the place after the last byte of the group at a register
abbrev pub group_end : ℕ → ℕ → ℕ → ℕ
group_end vlen lmul register = register * register_bytes vlen + group_length vlen lmul

-- vd's group from element vl on
unfoldable pub tail_filled : Fields → Settings → List ℕ → List ℕ
tail_filled f s file = cond s.vta (ones_between (element_at s.vlen s.sew f.vd s.vl) (group_end s.vlen s.lmul f.vd) file) file

-- what both policies fill, of any word; nothing where vstart is at or past vl
unfoldable pub filled : Fields → Settings → List ℕ → List ℕ
filled f s file = cond (leb s.vl s.vstart) file (tail_filled f s (mask_filled f s file))
