-- `search::search` meets its contract: the loops of an accepted section are searched.
use mathlib.Core.Path.{◌≡◌, sym, ap, subst, ◌∙◌}
use lib.ListN.{drop}
use Rattle.wire.specs.Trail.{answer}
use Rattle.tables.specs.Tables.{row_of, row_at, FixedTwo}
use Rattle.verdict.specs.Verdict.{is_accepted}
use Rattle.section.specs.Reading.{LoopsRead, inside, read, judged}
use Rattle.search.specs.Search.{hit_from, sought}
use Rattle.tables.specs.declared.Row.{Row}
use Rattle.tables.proofs.RowLaws.{fixed_two}
use Rattle.search.proofs.WithoutFault.{read_inside}
use Rattle.search.proofs.search.Goals as goal
use Rattle.search.proofs.search.Goals.{After-before_crc}

-- The section is accepted, and its loops are those of its row.
module _ (c : After-before_crc) where
  abbrev row : Row
  row = c.row_for-row.result

  all_read : read c.args.section.now ≡ inside row row.before (drop row.before c.before_crc.result.now)
  all_read =
      read_inside _ _ _ (c.row_for-row.ensures ∙ ap row_at (c.table_of.ensures ∙ ap row_of c.byte_at.ensures))
      c.before_crc.ensures (sym c.in_ok-judge.ensures)

pub find_inside-requires : goal.find_inside-requires
unfolding judged
find_inside-requires c = (
  subst (λ (r : Row). FixedTwo r.fixed) (sym c.row_for-row.ensures) (fixed_two _),
  sym (ap answer (all_read (goal.at.find_inside-requires c).After-before_crc)) ∙ sym c.in_ok-judge.ensures,
)

pub returns : goal.returns
unfolding sought
returns c =
    rw (ap is_accepted (sym c.in_ok-judge.ensures))
    (c.find_inside.ensures ∙ sym
    (ap (λ (x : LoopsRead). hit_from c.args.tag 0 x.items) (all_read (goal.at.returns c).After-before_crc)))
