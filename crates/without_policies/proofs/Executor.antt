-- With both policies off the executor is the old one (`same-without-policies`).
-- Assumes nothing.
use Rattle.std.proofs.Common.{Option, Some, None, Bool, true, false, cond, List, ◌≡◌, refl, ap, ◌∙◌, ℕ, eqb, leb, length}
use Rattle.vector_kind.specs.declared.Kind.{Kind}
use Rattle.vector_kind.specs.declared.Kind.TheVariants.{VclmulVv, VclmulVx, VclmulhVv, VclmulhVx, VghshVv, VghshVs, VgmulVv, VgmulVs}
use Rattle.vector_word.specs.declared.Fields.{Fields}
use Rattle.vector_word.specs.declared.Instruction.{Instruction}
use Rattle.vector_word.specs.Word.{decode}
use Rattle.vector_refusal.specs.Refusal.{refusal_of_known, refusal_of_decoded, refusal_of}
use Rattle.vector_clmul.specs.Carryless.{carryless_result, carryless_step, carryless}
use Rattle.vector_ghash.specs.GhashWords.{vv_step, vs_step, ghash_vv, ghash_vs}
use Rattle.vector_fill.specs.Fill.{mask_filled, tail_filled, filled}
use Rattle.vector_execute.specs.Execute.{done_known, done, executed}
use Rattle.without_policies.specs.Executor.{OldSettings, policies_off, old1, old_refusal_of_word, old_refusal_of, old_carryless, old_ghash, old_done_known, old_done, old_executed, SameWithoutPolicies}

module _ (s : OldSettings) where
  number : (file_length : ℕ) (w : Option Instruction) → refusal_of_decoded file_length w (policies_off s) ≡ cond (old1 file_length s) 1 (old_refusal_of_word w s)
  unfolding refusal_of_known
  number file_length None = refl
  number file_length (Some i) = refl

  -- nothing is filled
  off : (f : Fields) (g : List ℕ) → filled f (policies_off s) g ≡ g
  unfolding mask_filled tail_filled filled
  off f g = go (leb s.vl s.vstart)
    where
      go : (b : Bool) → cond b g g ≡ g
      go true = refl
      go false = refl

  units : (k : Kind) (f : Fields) (scalar : ℕ) (file : List ℕ) → done_known k f (policies_off s) scalar file ≡ old_done_known k f s scalar file
  unfolding carryless_result carryless_step carryless vv_step vs_step ghash_vv ghash_vs old_carryless old_ghash
  units VclmulVv f scalar file = refl
  units VclmulVx f scalar file = refl
  units VclmulhVv f scalar file = refl
  units VclmulhVx f scalar file = refl
  units VghshVv f scalar file = refl
  units VghshVs f scalar file = refl
  units VgmulVv f scalar file = refl
  units VgmulVs f scalar file = refl

  word_same : (w : Option Instruction) (scalar : ℕ) (file : List ℕ) → done w (policies_off s) scalar file ≡ old_done w s scalar file
  word_same None scalar file = refl
  word_same (Some i) scalar file = off i.fields (done_known i.kind i.fields (policies_off s) scalar file) ∙ units i.kind i.fields scalar file

pub same-without-policies : SameWithoutPolicies
unfolding refusal_of executed old_refusal_of old_executed
same-without-policies word s scalar file =
    let n = number s (length file) (decode word) in (
      n,
      ap (λ (m : ℕ). cond (eqb m 0) 0 s.vstart) n,
      λ i. cond (eqb (n i) 0) (word_same s (decode word) scalar file i) file,
    )
