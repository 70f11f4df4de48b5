-- The plain and the fast path (document 01's terms): bit by bit with the key, or four coefficients at a time with its tables.
-- Assumes nothing.
use Rattle.std.specs.Prelude.{◌≡◌, List, ℕ}
use Rattle.ghash_block.specs.declared.block.Key.{Key}
use Rattle.ghash_step.specs.declared.Path.{Path}
use Rattle.ghash_step.specs.declared.PreparedKey.{PreparedKey}
use Rattle.ghash_step.specs.declared.Path.TheVariants.{Plain, Fast}
use Rattle.ghash_block.specs.Block.{key_of}
use Rattle.ghash_tables.specs.Table.{TableOf}

abbrev pub tables_for : Path → ℕ → List ℕ → Type 0
tables_for Plain h t = Unit {0}
tables_for Fast h t = TableOf h t

-- the tables that a call multiplies with are the key's; the plain path needs none
pub record Serves (path : Path) (key : Key) (t : List ℕ) : Type 0 where
  pub tables : tables_for path (key_of key) t

-- the same of a key made ready for a path
abbrev pub IsPrepared : PreparedKey → Type 0
IsPrepared k = Serves k.path k.key k.numbers.now

-- what `put_tables` makes of the tables t: those of the key for the fast path; for the plain path they stay as they were
abbrev pub tables_put : Path → ℕ → List ℕ → List ℕ → Type 0
tables_put Plain h t t' = t' ≡ t
tables_put Fast h t t' = TableOf h t'

pub record TablesPut (path : Path) (key : Key) (t t' : List ℕ) : Type 0 where
  pub tables : tables_put path (key_of key) t t'
