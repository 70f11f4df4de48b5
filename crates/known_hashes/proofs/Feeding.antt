-- Pieces fed one after the other. Assumes nothing.
use mathlib.Core.List.{List, [], ◌∷◌, ◌++◌, append_assoc, append-nil}
use mathlib.Core.Path.{◌≡◌, refl, sym, ap, ◌∙◌}
use Prim.Native.Nat.{ℕ, ◌+◌, ◌-◌, ◌≤◌}
use native.Mathlib.Omega.{arith}
use lib.Bits.{bit_or}
use lib.ListN.{take, drop}
use lib.Seq.{take-add}
use Rattle.gf128.specs.Pieces.{joined, fed_all, answers, fed_all_a, answers_a, fed_all_c, answers_c, run_of}
use Rattle.gf128.specs.Running.{State, fresh, feed_a_refusal, after_feed_a, finish_refusal, finish_block}
use Rattle.ghash_running.specs.Answers.{Finishes}
use Rattle.known_hashes.specs.declared.pieces.SoFar.{SoFar}
use Rattle.ghash_block.specs.declared.block.Block.{Block}
use Rattle.ghash_state.specs.State.{view}
use Rattle.ghash_state.specs.declared.Running.{Running}
use Rattle.known_hashes.specs.Pieces.{refusal_in, after_in, FeedsIn, last_or, FedIn, last_number, FedAll, InPieces}
use Rattle.known_hashes.specs.declared.pieces.Part.{Part}
use Rattle.known_hashes.specs.declared.pieces.Part.TheVariants.{A, C}

-- ---- one piece more

joined-more : (ps : List (List ℕ)) (p : List ℕ) → joined (ps ++ (p ∷ [])) ≡ joined ps ++ p
unfolding joined
joined-more [] p = append-nil p
joined-more (q ∷ ps) p = ap (λ (l : List ℕ). q ++ l) (joined-more ps p) ∙ sym (append_assoc q (joined ps) p)

fed-more : (feed : State → List ℕ → State) (s : State) (ps : List (List ℕ)) (p : List ℕ) → fed_all feed s (ps ++ (p ∷ [])) ≡ feed (fed_all feed s ps) p
unfolding fed_all
fed-more feed s [] p = refl
fed-more feed s (q ∷ ps) p = fed-more feed (feed s q) ps p

last_more : (number : State → List ℕ → ℕ) (feed : State → List ℕ → State) (n : ℕ) (s : State) (ps : List (List ℕ)) (p : List ℕ)
    → last_or n (answers number feed s (ps ++ (p ∷ []))) ≡ number (fed_all feed s ps) p
unfolding answers fed_all last_or
last_more number feed n s [] p = refl
last_more number feed n s (q ∷ ps) p = last_more number feed (number s q) (feed s q) ps p

last-both : (n : ℕ) (ms ks : List ℕ) → last_or n (ms ++ ks) ≡ last_or (last_or n ms) ks
unfolding last_or
last-both n [] ks = refl
last-both n (m ∷ ms) ks = last-both m ms ks

taken : (s : List ℕ) (at end : ℕ) → at ≤ end → take at s ++ take (end - at) (drop at s) ≡ take end s
taken s at end l = let all : at + (end - at) ≡ end = omega arith in sym (take-add at (end - at) s) ∙ ap (λ (n : ℕ). take n s) all

pub none-fed : (part : Part) (key s : List ℕ) (before : SoFar) → FedIn part key before (take 0 s) before
unfolding joined fed_all answers last_or
none-fed part key s before = record { pieces = []; whole = refl; state = refl; number = refl }

module _ (part : Part) (key s : List ℕ) (before last next : SoFar) where
  pub one-fed : (at end : ℕ) → at ≤ end → FedIn part key before (take at s) last → FeedsIn part key last.state (take (end - at) (drop at s)) next
      → FedIn part key before (take end s) next
  one-fed at end l f u =
      let piece = take (end - at) (drop at s) in
      let old : view last.state ≡ fed_all (after_in part key) (view before.state) f.pieces = f.state in
      record {
        pieces = f.pieces ++ (piece ∷ []);
        whole = joined-more f.pieces piece ∙ ap (λ (x : List ℕ). x ++ piece) f.whole ∙ taken s at end l;
        state = u.state ∙ ap (λ (x : State). after_in part key x piece) old ∙ sym (fed-more (after_in part key) _ f.pieces piece);
        number =
            u.answer ∙ ap (λ (x : State). refusal_in part key x piece) old ∙ sym (last_more (refusal_in part key) (after_in part key) before.number _ f.pieces piece);
      }

-- ---- all of them

-- A after an empty piece, then C
pub all-fed : (key a c : List ℕ) (begin : Running) (begun after-a after-c : SoFar) → view begin ≡ fresh → FeedsIn A key begin [] begun
    → FedIn A key begun a after-a → FedIn C key after-a c after-c → FedAll key a c after-c
unfolding joined fed_all answers last_or
all-fed key a c begin begun after-a after-c new first in-a feeds_c =
    let begun-is : view begun.state ≡ after_feed_a key fresh [] = first.state ∙ ap (λ (x : State). after_feed_a key x []) new in
    let number_is : begun.number ≡ feed_a_refusal key fresh [] = first.answer ∙ ap (λ (x : State). feed_a_refusal key x []) new in
    let after_is : view after-a.state ≡ fed_all_a key fresh ([] ∷ in-a.pieces) =
    in-a.state ∙ ap (λ (x : State). fed_all_a key x in-a.pieces) begun-is in
    let started = after_feed_a key fresh [] in
    let number-a : after-a.number ≡ last_or (feed_a_refusal key fresh []) (answers_a key started in-a.pieces) =
    in-a.number
    ∙ ap (λ (n : ℕ). last_or n (answers_a key (view begun.state) in-a.pieces)) number_is
    ∙ ap (λ (x : State). last_or (feed_a_refusal key fresh []) (answers_a key x in-a.pieces)) begun-is in
    record {
      in_a = [] ∷ in-a.pieces;
      in_c = feeds_c.pieces;
      whole_a = in-a.whole;
      whole_c = feeds_c.whole;
      state = feeds_c.state ∙ ap (λ (x : State). fed_all_c key x feeds_c.pieces) after_is;
      number =
          feeds_c.number
          ∙ ap (λ (n : ℕ). last_or n (answers_c key (view after-a.state) feeds_c.pieces)) number-a
          ∙ ap (λ (x : State). last_or (last_or (feed_a_refusal key fresh []) (answers_a key started in-a.pieces)) (answers_c key x feeds_c.pieces)) after_is
          ∙ sym (last-both (feed_a_refusal key fresh []) (answers_a key started in-a.pieces) (answers_c key (fed_all_a key started in-a.pieces) feeds_c.pieces));
    }

-- and the end
pub all-in-pieces : (key a c : List ℕ) (last : SoFar) (n : ℕ) (t : Running) (b : Block) → FedAll key a c last → Finishes key last.state n t b
    → InPieces key a c (record { block = b; number = bit_or last.number n })
unfolding run_of
all-in-pieces key a c last n t b f e = record {
  in_a = f.in_a;
  in_c = f.in_c;
  whole_a = f.whole_a;
  whole_c = f.whole_c;
  block = e.1 ∙ ap (finish_block key) f.state;
  number =
      ap (λ (m : ℕ). bit_or m n) f.number
      ∙ ap (bit_or (last_number key f.in_a f.in_c)) (e.0.answer ∙ ap (finish_refusal key) f.state);
}
