-- The examples hold (`examples`): one test of an example, computed over the table, and one law that turns the test into what the example
-- says. Assumes nothing.
use Rattle.std.proofs.Common.{Bool, cond, ◌&&◌, List, [], ◌∷◌, map, ◌≡◌, refl, sym, ap, ap₂, ◌∙◌, ℕ, T, eqb, eqb→eq}
use Rattle.octets.specs.BigEndian.{be_at, be_bytes}
use Rattle.gf128.specs.Bytes.{block_at}
use Rattle.gf128.specs.Hash.{blocks_from, blocks_of, length_block, message_of}
use Rattle.gf128.proofs.Computed.{quick_x_of, quick_steps, quick_product, quick_over, quick_ghash, quick-ghash}
use Rattle.gf128.proofs.Tests.{and_left, and_right}
use Rattle.link_many.specs.Links.{claim_of, expected_of, answer, records_from, records, links_refusal, links_number, links_results}
use Rattle.link_theorems.specs.Examples.{Example, lengths, gives, stays, table, Holds, ExamplesHold}
use Rattle.theorems_examples.proofs.Examples.{same-list}
use Rattle.theorems_examples.proofs.Marked.{same}
use Rattle.theorems_examples.proofs.Rows.{all_right, all-show}

-- ---- the output, by hashes that compute fast

quick_answer : ℕ → List ℕ → ℕ
quick_answer h r = cond (eqb (quick_ghash h (claim_of r) []) (expected_of r)) 1 0

quick-answers : (h : ℕ) (rs : List (List ℕ)) → map (quick_answer h) rs ≡ map (answer h) rs
unfolding quick_answer
quick-answers h [] = refl
quick-answers h (r ∷ rs) =
    ap₂ ◌∷◌ (ap (λ (v : ℕ). cond (eqb v (expected_of r)) 1 0) (quick-ghash h (claim_of r) [])) (quick-answers h rs)

quick_results : List ℕ → List ℕ → List ℕ → List ℕ
quick_results key s results = cond (eqb (links_number key s results) 0) (map (quick_answer (block_at key 0)) (records s)) results

quick-results : (key s results : List ℕ) → quick_results key s results ≡ links_results key s results
unfolding quick_results
quick-results key s results =
    ap (λ (bytes : List ℕ). cond (eqb (links_number key s results) 0) bytes results) (quick-answers (block_at key 0) (records s))

-- ---- the test

-- the number, and the output afterwards
outcome : (key s before : List ℕ) (number : ℕ) (after : List ℕ) → Bool
outcome key s before number after = eqb (links_number key s before) number && same (quick_results key s before) after

right : Example → Bool
right (lengths key input output number) = eqb (links_refusal key input output) number
right (gives key s before after) = outcome key s before 0 after
right (stays key s before number) = outcome key s before number before

shows-outcome : (key s before : List ℕ) (number : ℕ) (after : List ℕ) → T (outcome key s before number after)
    → (links_number key s before ≡ number) × (links_results key s before ≡ after)
unfolding outcome
shows-outcome key s before number after t =
    let a = eqb (links_number key s before) number in
    let b = same (quick_results key s before) after in (
      eqb→eq (links_number key s before) number (and_left a b t),
      sym (quick-results key s before) ∙ same-list (quick_results key s before) after (and_right a b t),
    )

shows : (e : Example) → T (right e) → Holds e
unfolding right
shows (lengths key input output number) t = eqb→eq (links_refusal key input output) number t
shows (gives key s before after) t = shows-outcome key s before 0 after t
shows (stays key s before number) t = shows-outcome key s before number before t

pub examples : ExamplesHold
unfolding table all_right right outcome same quick_results quick_answer records_from be_at be_bytes quick_x_of quick_steps quick_product quick_over quick_ghash blocks_from blocks_of length_block message_of
examples = record { rows = refl; all = all-show Holds right shows table tt }
