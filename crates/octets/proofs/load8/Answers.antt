-- `load8` meets its contract: a run of bytes is read in two parts. Assumes nothing.
use mathlib.Core.Path.{sym, ap₂, ◌∙◌}
use Prim.Native.Nat.{ℕ, ◌+◌, ◌*◌, ◌^◌}
use Rattle.octets.proofs.BigEndian.{be_at-split}
use Rattle.octets.proofs.load8.Goals as goal

pub returns : goal.returns
returns c =
    let a = c.args in
    ap₂ (λ (p q : ℕ). p * 256 ^ 4 + q) c.load4.ensures.0 c.load4-2.ensures.0 ∙ sym (be_at-split a.s.now a.at 4 4)
