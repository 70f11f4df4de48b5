-- The text of a word (document 02, Ask 1): mnemonic, a space, the operands in the order of sources 000 and 002, parted by a comma and a space,
-- and ", v0.t" at the end when vm is 0. Assumes nothing.
use Prim.Native.Char.{code}
use Rattle.std.specs.Prelude.{ℕ, ◌+◌, ◌/◌, ◌%◌, cond, List, [], ◌∷◌, ◌++◌, eqb, ltb, Option, Some, None}
use Prim.Native.String.{String, [] as []ˢ, ◌∷◌ as ◌∷ˢ◌}
use Rattle.vector_kind.specs.declared.Form.{Form}
use Rattle.vector_kind.specs.declared.Form.TheVariants.{Vv, Vx, Vs}
use Rattle.vector_kind.specs.declared.Kind.{Kind}
use Rattle.vector_kind.specs.declared.Kind.TheVariants.{VclmulVv, VclmulVx, VclmulhVv, VclmulhVx, VghshVv, VghshVs, VgmulVv, VgmulVs}
use Rattle.vector_kind.specs.Kinds.{traits}
use Rattle.vector_word.specs.declared.Fields.{Fields}
use Rattle.vector_word.specs.declared.Instruction.{Instruction}
use Rattle.vector_listing.specs.declared.Third.{Third}
use Rattle.vector_listing.specs.declared.Third.TheVariants.{Vs1, Rs1}

-- the characters' codes, one byte each
abbrev pub ascii : String → List ℕ
ascii []ˢ = []
ascii (c ∷ˢ s) = code c ∷ ascii s

-- the mnemonics of sources 000 and 002, and vgmul.vv of the ratified specification
abbrev pub mnemonic : Kind → List ℕ
mnemonic VclmulVv = ascii "vclmul.vv"
mnemonic VclmulVx = ascii "vclmul.vx"
mnemonic VclmulhVv = ascii "vclmulh.vv"
mnemonic VclmulhVx = ascii "vclmulh.vx"
mnemonic VghshVv = ascii "vghsh.vv"
mnemonic VghshVs = ascii "vghsh.vs"
mnemonic VgmulVv = ascii "vgmul.vv"
mnemonic VgmulVs = ascii "vgmul.vs"

-- the byte of a decimal digit: 48 is 0
abbrev pub digit : ℕ → ℕ
digit d = 48 + d

-- a number below 100 in decimal, without leading zeros
abbrev pub decimal : ℕ → List ℕ
decimal n = cond (ltb n 10) (digit n ∷ []) (digit (n / 10) ∷ digit (n % 10) ∷ [])

-- the third operand where vs1 is no register group: rs1 in a .vx word, and none in vgmul
abbrev pub third_in : Form → Option Third
third_in Vv = None
third_in Vx = Some Rs1
third_in Vs = None

-- what the vs1 field is in the texts of a kind
abbrev pub third_of : Kind → Option Third
third_of k = cond (traits k).vs1_group (Some Vs1) (third_in (traits k).form)

abbrev pub third : Option Third → ℕ → List ℕ
third (Some Vs1) n = ascii ", v" ++ decimal n
third (Some Rs1) n = ascii ", x" ++ decimal n
third None n = []

-- a word with vm 0 is masked by register 0
abbrev pub mask : ℕ → List ℕ
mask vm = cond (eqb vm 0) (ascii ", v0.t") []

-- mnemonic, vd, vs2, then vs1 or rs1, and the mask
unfoldable pub text : Kind → Fields → List ℕ
text k f =
    mnemonic k
    ++ ((ascii " v" ++ decimal f.vd)
    ++ ((ascii ", v" ++ decimal f.vs2)
    ++ (third (third_of k) f.vs1 ++ mask f.vm)))

abbrev pub text_of : Option Instruction → List ℕ
text_of (Some i) = text i.kind i.fields
text_of None = []
