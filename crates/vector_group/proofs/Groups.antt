-- A register group's part is empty exactly when the group's number is not 0 (`empty-when-refused`), and lies within the file always
-- (`part_within`).
-- Assumes nothing.
use Rattle.std.proofs.Common.{◌≡◌, ◌≢◌, ◌↔◌, ℕ, ◌+◌, ◌*◌, ◌%◌, ◌<◌, ◌≤◌, Bool, true, false, cond, eqb, List, [], length, refl, sym, ap, ◌∙◌, arith, eqb-true, eq-eqb, ne_eqb, length-take, length-drop}
use Rattle.std.proofs.lemmas.Bool.Decides.{nat_tests}
use Rattle.std.proofs.lemmas.List.{nil_from_length}
use Rattle.vector_registers.specs.Settings.{vlen_allowed, lmul_allowed, register_bytes, file_bytes, group_registers, group_length}
use Rattle.vector_group.specs.Group.{group_refusal, part_start, part_length, group_of}
use Rattle.vector_registers.proofs.Allowed.{each-vlen, each-group}
use Rattle.vector_word.proofs.Tests.{pick-here, pick_next}

-- an aligned group ends at the last register or before
pub last-register : (lmul r : ℕ) → lmul_allowed lmul ≡ true → r ≤ 31 → r % group_registers lmul ≡ 0 → r + group_registers lmul ≤ 32
last-register lmul r h le =
    each-group (λ (n : ℕ). r % n ≡ 0 → r + n ≤ 32) lmul (λ m. omega arith) (λ m. omega arith) (λ m. omega arith) (λ m. omega arith) h

-- a group that ends at register 32 or before lies within the file
abbrev pub InFile : ℕ → ℕ → ℕ → Type 0
InFile r lmul vlen = r * register_bytes vlen + group_length vlen lmul ≤ file_bytes vlen

pub registers-within : (vlen r lmul : ℕ) → vlen_allowed vlen ≡ true → r + group_registers lmul ≤ 32 → InFile r lmul vlen
registers-within vlen r lmul h le = each-vlen (InFile r lmul) vlen (omega arith) (omega arith) (omega arith) h

-- no group is empty
some_bytes : (vlen lmul : ℕ) → vlen_allowed vlen ≡ true → lmul_allowed lmul ≡ true → 0 < group_length vlen lmul
some_bytes vlen lmul v l =
    let one : 1 ≤ group_registers lmul = each-group (λ (n : ℕ). 1 ≤ n) lmul (omega arith) (omega arith) (omega arith) (omega arith) l in
    each-vlen (λ (x : ℕ). 0 < group_length x lmul) vlen (omega (arith, one)) (omega (arith, one)) (omega (arith, one)) v

-- what number 0 says of the settings
pub record Granted (vlen file_length lmul register : ℕ) : Type 0 where
  pub vlen-allowed : vlen_allowed vlen ≡ true
  pub file-length : file_length ≡ file_bytes vlen
  pub lmul-allowed : lmul_allowed lmul ≡ true
  pub a-register : register ≤ 31
  pub aligned : register % group_registers lmul ≡ 0

module _ (vlen file_length lmul register : ℕ) (zero : group_refusal vlen file_length lmul register ≡ 0) where
  pub granted : Granted vlen file_length lmul register
  unfolding group_refusal
  granted =
      record {
        vlen-allowed = grind (arith, nat_tests);
        file-length = grind (arith, nat_tests);
        lmul-allowed = grind (arith, nat_tests);
        a-register = grind (arith, nat_tests);
        aligned = grind (arith, nat_tests);
      }

  pub within : register * register_bytes vlen + group_length vlen lmul ≤ file_length
  within =
      rw granted.file-length
      (registers-within vlen register lmul granted.vlen-allowed
      (last-register lmul register granted.lmul-allowed granted.a-register granted.aligned))

-- what is handed back: all of the group where the number is 0, else nothing; either way it lies within the file
module _ (vlen file_length lmul register : ℕ) where
  pub the-part : group_refusal vlen file_length lmul register ≡ 0
      → (register * register_bytes vlen ≡ part_start vlen file_length lmul register) × (group_length vlen lmul ≡ part_length vlen file_length lmul register)
  the-part h = (pick-here _ _ _ (eq-eqb _ _ h), pick-here _ _ _ (eq-eqb _ _ h))

  pub no_part : group_refusal vlen file_length lmul register ≢ 0
      → (0 ≡ part_start vlen file_length lmul register) × (0 ≡ part_length vlen file_length lmul register)
  no_part h = (pick_next _ _ _ (ne_eqb _ _ h) refl, pick_next _ _ _ (ne_eqb _ _ h) refl)

  pub part_within : part_start vlen file_length lmul register + part_length vlen file_length lmul register ≤ file_length
  part_within = go (eqb (group_refusal vlen file_length lmul register) 0) (λ e. within vlen file_length lmul register (eqb-true _ _ e))
    where
      go : (b : Bool) → (b ≡ true → register * register_bytes vlen + group_length vlen lmul ≤ file_length)
          → cond b (register * register_bytes vlen) 0 + cond b (group_length vlen lmul) 0 ≤ file_length
      go true h = h refl
      go false h = omega arith

module _ (vlen : ℕ) (file : List ℕ) (lmul register : ℕ) where
  pub part_length_lem : length (group_of vlen file lmul register) ≡ part_length vlen (length file) lmul register
  unfolding group_of
  part_length_lem = simp (length-take, length-drop) (omega (arith, part_within vlen (length file) lmul register))

  pub empty-when-refused : group_of vlen file lmul register ≡ [] ↔ group_refusal vlen (length file) lmul register ≢ 0
  empty-when-refused = (
    λ e h. let g = granted vlen (length file) lmul register h in
        omega (arith, some_bytes vlen lmul g.vlen-allowed g.lmul-allowed, (the-part vlen (length file) lmul register h).1, part_length_lem, ap length e),
    λ h. nil_from_length (group_of vlen file lmul register) (part_length_lem ∙ sym (no_part vlen (length file) lmul register h).1),
  )
