-- `turn::bodies::body_back` meets its contract.
use Prim.Native.Nat.{ℕ}
use mathlib.Core.Path.{refl}
use mathlib.Core.Bool.{false}
use Rattle.tables.specs.Tables.{place}
use Rattle.sheet.proofs.Shapes.{place_known}
use Rattle.turn.proofs.BodyLaws.{entries_known, rest_some, rest_none, body_turned}
use Rattle.turn.proofs.bodies.body_back.Goals as goal

pub returns-then-fixed-eq0 : goal.returns-then-fixed-eq0
returns-then-fixed-eq0 c =
    let number : ℕ = place c.args.table in
    body_turned false number c.row-row.ensures refl c.head-q.ensures c.top_loop-t.ensures
    (rest_none false number c.row-row.ensures refl c.if-fixed-eq0.true)

pub entries_back-requires : goal.entries_back-requires
entries_back-requires c = entries_known (place c.args.table) c.row-row.ensures c.if-fixed-eq0.false (place_known c.args.table)

pub returns : goal.returns
returns c =
    let number : ℕ = place c.args.table in
    body_turned false number c.row-row.ensures refl c.head-q.ensures c.top_loop-t.ensures
    (rest_some false number c.row-row.ensures refl c.if-fixed-eq0.false c.entries_back.ensures)
