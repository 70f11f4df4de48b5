-- Document 01, "Execution", with document 02's Ask 5: what a call does to the register file and to vstart.
-- Assumes nothing.
use Rattle.std.specs.Prelude.{ℕ, cond, List, Option, Some, None, eqb, length}
use Rattle.vector_product.specs.declared.clmul.Half.TheVariants.{Low, High}
use Rattle.vector_clmul.specs.declared.Multiplier.TheVariants.{Vs1, Scalar}
use Rattle.vector_ghash.specs.declared.GhashMultiplier.TheVariants.{YXorX, YAlone}
use Rattle.vector_registers.specs.declared.settings.Settings.{Settings}
use Rattle.vector_kind.specs.declared.Kind.{Kind}
use Rattle.vector_kind.specs.declared.Kind.TheVariants.{VclmulVv, VclmulVx, VclmulhVv, VclmulhVx, VghshVv, VghshVs, VgmulVv, VgmulVs}
use Rattle.vector_word.specs.declared.Fields.{Fields}
use Rattle.vector_word.specs.declared.Instruction.{Instruction}
use Rattle.vector_clmul.specs.Carryless.{scalar_of, carryless}
use Rattle.vector_ghash.specs.GhashWords.{ghash_vv, ghash_vs}
use Rattle.vector_fill.specs.Fill.{filled}
use Rattle.vector_refusal.specs.Refusal.{refusal_of}
use Rattle.vector_word.specs.Word.{decode}

-- the active elements or groups of a word, by its kind
abbrev pub done_known : Kind → Fields → Settings → ℕ → List ℕ → List ℕ
done_known VclmulVv f s scalar file = carryless Low Vs1 f s file
done_known VclmulVx f s scalar file = carryless Low (Scalar (scalar_of f s scalar)) f s file
done_known VclmulhVv f s scalar file = carryless High Vs1 f s file
done_known VclmulhVx f s scalar file = carryless High (Scalar (scalar_of f s scalar)) f s file
done_known VghshVv f s scalar file = ghash_vv YXorX f s file
done_known VghshVs f s scalar file = ghash_vs YXorX f s file
done_known VgmulVv f s scalar file = ghash_vv YAlone f s file
done_known VgmulVs f s scalar file = ghash_vs YAlone f s file

-- a decoded word: the active ones, then what the policies fill
abbrev pub done : Option Instruction → Settings → ℕ → List ℕ → List ℕ
done None s scalar file = file
done (Some i) s scalar file = filled i.fields s (done_known i.kind i.fields s scalar file)

-- the file after a call; a refusal leaves it as it was
unfoldable pub executed : ℕ → Settings → ℕ → List ℕ → List ℕ
executed word s scalar file = cond (eqb (refusal_of (length file) word s) 0) (done (decode word) s scalar file) file

-- vstart after a call: 0 where it is done, else the old one
abbrev pub vstart_after : ℕ → ℕ → Settings → ℕ
vstart_after file_length word s = cond (eqb (refusal_of file_length word s) 0) 0 s.vstart
