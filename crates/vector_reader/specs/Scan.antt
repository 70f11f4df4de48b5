-- What the reader takes a text for: a kind and fields that are right where the text is a word's, and anything else where it is not. The
-- reader lists what it took and compares, so no public contract cites this file. Assumes nothing.
use Rattle.std.specs.Prelude.{ℕ, ◌+◌, ◌*◌, ◌/◌, ◌%◌, Bool, true, false, cond, not, ◌||◌, List, eqb, ltb, length, get_or}
use Rattle.vector_kind.specs.declared.Kind.{Kind}
use Rattle.vector_kind.specs.declared.Kind.TheVariants.{VclmulVv, VclmulVx, VclmulhVv, VclmulhVx, VghshVv, VghshVs, VgmulVv, VgmulVs}
use Rattle.vector_kind.specs.Kinds.{is_ghash, has_vs1_group}
use Rattle.vector_word.specs.declared.Fields.{Fields}
use Rattle.vector_listing.specs.Text.{mnemonic}
use Rattle.vector_reader.specs.declared.Scanned.{Scanned}

-- ---- the kind, by the bytes in which the mnemonics differ

abbrev pub either : List ℕ → ℕ → ℕ → Kind → Kind → Kind
either s at byte one other = cond (eqb (get_or s at 0) byte) one other

-- 0x63 is c, 0x68 h, 0x73 s and 0x78 x
abbrev pub kind_in : List ℕ → Kind
kind_in s =
    either s 1 0x63
    (either s 6 0x68 (either s 9 0x78 VclmulhVx VclmulhVv) (either s 8 0x78 VclmulVx VclmulVv))
    (either s 2 0x68 (either s 7 0x73 VghshVs VghshVv) (either s 7 0x73 VgmulVs VgmulVv))

-- ---- numbers

-- one or two digits from `at` on: a second byte of 0x30 to 0x3F is taken for a digit
abbrev pub scanned : List ℕ → ℕ → Scanned
scanned s at =
    cond (eqb (get_or s (at + 1) 0 / 16) 3)
    (record { value = get_or s at 0 % 16 * 10 + get_or s (at + 1) 0 % 16; end = at + 2 })
    (record { value = get_or s at 0 % 16; end = at + 1 })

-- where the first number stands: after the mnemonic, a space and a v
abbrev pub operands_at : Kind → ℕ
operands_at k = length (mnemonic k) + 2

-- there is a third operand: in all but vgmul
abbrev pub has_third : Kind → Bool
has_third k = has_vs1_group k || not (is_ghash k)

-- whatever follows the operands is taken for the mask
abbrev pub vm_at : List ℕ → ℕ → ℕ
vm_at s at = cond (ltb at (length s)) 0 1

-- the fields, after vd and vs2 were read; a number follows the letter after a comma and a space
abbrev pub fields_after : Bool → List ℕ → Scanned → Scanned → Fields
fields_after true s d m = record {
  vm = vm_at s (scanned s (m.end + 3)).end;
  vs2 = m.value;
  vs1 = (scanned s (m.end + 3)).value;
  vd = d.value;
}
fields_after false s d m = record { vm = vm_at s m.end; vs2 = m.value; vs1 = 17; vd = d.value }

unfoldable pub fields_in : Kind → List ℕ → Fields
fields_in k s = fields_after (has_third k) s (scanned s (operands_at k)) (scanned s ((scanned s (operands_at k)).end + 3))
