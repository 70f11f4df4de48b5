-- What tells the eight kinds of word apart beside their encoding, as one table with a row a kind. Refusals and execution ask it.
-- Assumes nothing.
use Rattle.std.specs.Prelude.{ℕ, Bool, true, false, cond, List, [], ◌∷◌, eqb, Result, Ok, Err}
use Rattle.refusal.specs.declared.Refusal.{Refusal}
use Rattle.refusal.specs.declared.Refusal.TheVariants.{NotAWord}
use Rattle.vector_kind.specs.declared.Kind.{Kind}
use Rattle.vector_kind.specs.declared.Kind.TheVariants.{VclmulVv, VclmulVx, VclmulhVv, VclmulhVx, VghshVv, VghshVs, VgmulVv, VgmulVs}
use Rattle.vector_kind.specs.declared.Operation.{Operation}
use Rattle.vector_kind.specs.declared.Operation.TheVariants.{Carryless, Ghash}
use Rattle.vector_kind.specs.declared.Form.{Form}
use Rattle.vector_kind.specs.declared.Form.TheVariants.{Vv, Vx, Vs}
use Rattle.vector_kind.specs.declared.Traits.{Traits}

-- what a row of the table says, column by column
abbrev pub traits_with : Operation → Form → Bool → Traits
traits_with operation form group = record { operation = operation; form = form; vs1_group = group }

-- the table: carry-less or GHASH; .vv, .vx or .vs; vs1 a register group or not (it is rs1 in .vx, and part of the encoding in vgmul)
abbrev pub traits : Kind → Traits
traits VclmulVv = traits_with Carryless Vv true
traits VclmulVx = traits_with Carryless Vx false
traits VclmulhVv = traits_with Carryless Vv true
traits VclmulhVx = traits_with Carryless Vx false
traits VghshVv = traits_with Ghash Vv true
traits VghshVs = traits_with Ghash Vs true
traits VgmulVv = traits_with Ghash Vv false
traits VgmulVs = traits_with Ghash Vs false

abbrev pub ghashes : Operation → Bool
ghashes Carryless = false
ghashes Ghash = true

abbrev pub vector_vector : Form → Bool
vector_vector Vv = true
vector_vector Vx = false
vector_vector Vs = false

abbrev pub vector_scalar : Form → Bool
vector_scalar Vv = false
vector_scalar Vx = false
vector_scalar Vs = true

-- ---- the questions that are asked

-- a GHASH word: vghsh and vgmul
abbrev pub is_ghash : Kind → Bool
is_ghash k = ghashes (traits k).operation

abbrev pub is_vv : Kind → Bool
is_vv k = vector_vector (traits k).form

-- a .vs word: vs2 is the key alone, and no group
abbrev pub is_vs : Kind → Bool
is_vs k = vector_scalar (traits k).form

abbrev pub has_vs1_group : Kind → Bool
has_vs1_group k = (traits k).vs1_group

-- ---- the kinds' numbers, for callers in C

abbrev pub kind_number : Kind → ℕ
kind_number VclmulVv = 0
kind_number VclmulVx = 1
kind_number VclmulhVv = 2
kind_number VclmulhVx = 3
kind_number VghshVv = 4
kind_number VghshVs = 5
kind_number VgmulVv = 6
kind_number VgmulVs = 7

abbrev pub kinds : List Kind
kinds = VclmulVv ∷ VclmulVx ∷ VclmulhVv ∷ VclmulhVx ∷ VghshVv ∷ VghshVs ∷ VgmulVv ∷ VgmulVs ∷ []

-- the one of these kinds that has this number
abbrev pub numbered_among : List Kind → ℕ → Result Kind Refusal
numbered_among [] n = Err NotAWord
numbered_among (k ∷ ks) n = cond (eqb n (kind_number k)) (Ok k) (numbered_among ks n)

abbrev pub kind_numbered : ℕ → Result Kind Refusal
kind_numbered n = numbered_among kinds n
