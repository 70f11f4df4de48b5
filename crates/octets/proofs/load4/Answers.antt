-- `load4` meets its contract. Assumes nothing.
use mathlib.Core.Path.{ap}
use Prim.Native.Nat.{ℕ}
use native.Mathlib.Nat.{add-zero}
use native.Mathlib.Omega.{arith}
use lib.ListN.{get_or}
use Rattle.octets.specs.BigEndian.{be_at}
use Rattle.octets.proofs.load4.Goals as goal

pub returns : goal.returns
unfolding be_at
returns c =
    let a = c.args in
    omega (arith, ap (λ (i : ℕ). get_or a.s.now i 0) (add-zero a.at))
