-- `search::find_from_top` meets its contract: what the top loop gives, or else what the entries behind it give.
use Prim.Native.Nat.{ℕ}
use mathlib.Core.Path.{◌≡◌, sym, ◌∙◌}
use mathlib.Core.List.{List}
use native.Mathlib.Omega.{arith}
use lib.ListN.{drop}
use lib.Seq.{length-take-le}
use borrow.Author.Tests.{eq-eqb, ne_eqb}
use Rattle.section.specs.Reading.{topped}
use Rattle.search.specs.Search.{told_hit, hit_from}
use Rattle.search.proofs.Hits.{or_else, hit_lead, found_leads, none_follows, or_none}
use Rattle.search.proofs.WithoutFault.{Topped, topped_ok, behind}
use Rattle.search.proofs.find_from_top.Goals as goal
use Rattle.search.proofs.find_from_top.Goals.{After-find_in_top-top, After-length12_at, then-is_some-via-then-is_some, then-is_some-via-else-is_some+then-fixed-eq0}

-- The top loop's length has been read: the table's loops.
whole : (c : After-length12_at) → Topped c.args.bytes.now c.args.at c.length12_at.result c.length12_at.ensures.same c.args.fixed
whole c = topped_ok _ _ _ _ c.args.fixed c.requires.1

-- The top loop has been searched: what was found in it leads, and what lies behind it follows.
module _ (c : After-find_in_top-top) where
  abbrev bytes : List ℕ
  bytes = c.args.bytes.now

  abbrev tag : ℕ
  tag = c.args.tag

  abbrev fixed : ℕ
  fixed = c.args.fixed

  abbrev at : ℕ
  at = c.args.at

  lead : hit_from tag 0 (topped fixed at (drop at bytes)).items
      ≡ or_else (told_hit c.find_in_top-top.result) (hit_from tag 1 (behind bytes at c.length12_at.result c.length12_at.ensures.same fixed))
  lead = hit_lead _ _ _ _ _ (topped_ok _ _ _ c.length12_at.ensures.same fixed c.requires.1).holds c.find_in_top-top.ensures

pub overflow_add-end-2 : goal.overflow_add-end-2
overflow_add-end-2 c = omega (arith, (whole (goal.at.overflow_add-end-2 c).After-length12_at).ends_there)

pub slice_bounds-find_in_top-end : goal.slice_bounds-find_in_top-end
slice_bounds-find_in_top-end c = sym (length-take-le _ _ (whole (goal.at.slice_bounds-find_in_top-end c).After-length12_at).ends_there)

pub overflow_add-at : goal.overflow_add-at
overflow_add-at c = omega (arith, (whole (goal.at.overflow_add-at c).After-length12_at).ends_there)

pub returns-then-is_some : goal.returns-then-is_some
returns-then-is_some c =
    let l = lead (goal.at.returns-then-is_some c).After-find_in_top-top in
    elim c.then-is_some.branch [
      | then-is_some-via-then-is_some w ↦ sym (l ∙ found_leads c.find_in_top-top.result _ (sym c.is_some.ensures ∙ w.if-is_some.true))
      | then-is_some-via-else-is_some+then-fixed-eq0 w ↦ sym (l ∙ rw (eq-eqb _ _ w.if-fixed-eq0.true) (or_none c.find_in_top-top.result))
    ]

pub overflow_add-end-3 : goal.overflow_add-end-3
overflow_add-end-3 c = omega (arith, (whole ((goal.at.overflow_add-end-3 c).After-length12_at)).room c.if-fixed-eq0.false)

pub find_in_entries-requires : goal.find_in_entries-requires
find_in_entries-requires c =
    (c.requires.0 c.if-fixed-eq0.false, (whole ((goal.at.find_in_entries-requires c).After-length12_at)).onward c.if-fixed-eq0.false)

pub returns : goal.returns
returns c =
    sym
    (lead (goal.at.returns c).After-find_in_top-top
    ∙ none_follows c.find_in_top-top.result _ (sym c.is_some.ensures ∙ c.if-is_some.false)
    ∙ rw (ne_eqb _ _ c.if-fixed-eq0.false) (sym c.find_in_entries.ensures))
