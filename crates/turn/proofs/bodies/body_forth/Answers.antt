-- `turn::bodies::body_forth` meets its contract.
use Prim.Native.Nat.{ℕ}
use mathlib.Core.Path.{refl}
use mathlib.Core.Bool.{true}
use Rattle.tables.specs.Tables.{place}
use Rattle.turn.proofs.BodyLaws.{rest_some, rest_none, body_turned}
use Rattle.turn.proofs.bodies.body_forth.Goals as goal

pub returns-then-row-eq0 : goal.returns-then-row-eq0
returns-then-row-eq0 c =
    let number : ℕ = place c.args.table in
    body_turned true number c.row-row.ensures refl c.head-q.ensures c.top_loop-t.ensures
    (rest_none true number c.row-row.ensures refl c.if-row-eq0.true)

pub returns : goal.returns
returns c =
    let number : ℕ = place c.args.table in
    body_turned true number c.row-row.ensures refl c.head-q.ensures c.top_loop-t.ensures
    (rest_some true number c.row-row.ensures refl c.if-row-eq0.false c.entries_forth.ensures)
