-- `search::find_in_entries` meets its contract. Both loops: what is still to be searched gives what the whole gives.
use Prim.Native.Nat.{ℕ, ◌+◌, ◌-◌, ◌<◌, ◌≤◌}
use mathlib.Core.Path.{◌≡◌, refl, sym, ap, ◌∙◌}
use mathlib.Core.List.{List}
use native.Mathlib.Omega.{arith}
use lib.ListN.{length, take}
use lib.Seq.{length-take-le}
use Rattle.wire.specs.Bytes.{len12_at}
use Rattle.wire.specs.Trail.{Trail}
use Rattle.verdict.specs.Verdict.{Said}
use Rattle.std.specs.Prelude.{Some, Ok}
use Rattle.loops.specs.Descriptors.{Placed, step_at, told_step}
use Rattle.loops.proofs.Loops.{body_on}
use Rattle.section.specs.Entries.{entries}
use Rattle.section.proofs.EntryLoops.{at-end}
use Rattle.search.specs.Search.{told_hit, hit_from}
use Rattle.search.proofs.Hits.{Entry, entry_here, hit_step, hit_on}
use Rattle.search.proofs.find_in_entries.Goals as goal
use Rattle.search.proofs.find_in_entries.Goals.{After-length12_at, In-Ok-Some, In-entries, in_default, in_default-2}

-- An entry begins at p.
module _ (c : In-entries) where
  abbrev bytes : List ℕ
  bytes = c.args.bytes.now

  abbrev p : ℕ
  p = c.entries.p

  own_of : (n : ℕ) → n ≡ len12_at bytes (p + (c.args.fixed - 2)) → Entry bytes c.args.fixed p n
  own_of n e = entry_here (record { two = c.requires.0; here = c.entries-test.true; same = e }) c.entries.invariant.1

  here : p + c.args.fixed ≤ length bytes
  here = omega (arith, (own_of _ refl).inside)

-- Its loop's length has been read.
module _ (c : After-length12_at) where
  own : Entry c.args.bytes.now c.args.fixed c.entries.p c.length12_at.result
  own =
      entry_here (record { two = c.requires.0; here = c.entries-test.true; same = c.length12_at.ensures.same })
      c.entries.invariant.1

-- A descriptor stands at q: the next is further on in the loop.
module _ (c : In-Ok-Some) where
  abbrev past : ℕ
  past = c.in-Ok-Some.d.start + c.in-Ok-Some.d.size

  abbrev end : ℕ
  end = c.entries.p + c.args.fixed + c.length12_at.result

  stands : told_step (Ok (Some c.in-Ok-Some.d)) ≡ step_at (take end c.args.bytes.now) c.descriptors.q
  stands = rw c.in-Ok-Some.field-0-is at c.in-Ok-Some.ensures

  further : end ≤ length c.args.bytes.now → (c.descriptors.q < past) × (past ≤ end)
  further inside = omega (arith, body_on _ _ _ stands, length-take-le end c.args.bytes.now inside)

pub overflow_add-start : goal.overflow_add-start
overflow_add-start c = omega (arith, here (goal.at.overflow_add-start c).In-entries)

pub overflow_add-p : goal.overflow_add-p
overflow_add-p c = omega (arith, here (goal.at.overflow_add-p c).In-entries)

pub overflow_add-next : goal.overflow_add-next
overflow_add-next c = omega (arith, (own (goal.at.overflow_add-next c).After-length12_at).inside)

pub descriptors-init : goal.descriptors-init
descriptors-init c =
    let entries = c.entries in (
      sym (ap (hit_from c.args.tag entries.number) (own (goal.at.descriptors-init c).After-length12_at).first) ∙ entries.invariant.0,
      omega arith,
      refl,
    )

pub slice_bounds-step_at-end : goal.slice_bounds-step_at-end
slice_bounds-step_at-end c = sym (length-take-le _ _ (own (goal.at.slice_bounds-step_at-end c).After-length12_at).inside)

pub overflow_add-q : goal.overflow_add-q
overflow_add-q c =
    let inside = (own (goal.at.overflow_add-q c).After-length12_at).inside in
    omega (arith, inside, further (goal.at.overflow_add-q c).In-Ok-Some inside)

pub descriptors-smaller : goal.descriptors-smaller
descriptors-smaller c =
    omega (arith, further (goal.at.descriptors-smaller c).In-Ok-Some (own (goal.at.descriptors-smaller c).After-length12_at).inside)

pub descriptors-preserved : goal.descriptors-preserved
descriptors-preserved c =
    let at = goal.at.descriptors-preserved c in
    let loop = c.descriptors in (
      sym (hit_on _ loop.q c.args.tag c.entries.number _ _ (stands at.In-Ok-Some) c.if-d-tag.false) ∙ loop.invariant.0,
      (further at.In-Ok-Some (own at.After-length12_at).inside).1,
      loop.invariant.2,
    )

pub entries-preserved : goal.entries-preserved
entries-preserved c =
    let here = own (goal.at.entries-preserved c).After-length12_at in (
      elim c.match-step_at.branch [
        | in_default w ↦ grind (arith, hit_step)
        | in_default-2 w ↦ grind (arith, hit_step)
      ],
      here.onward,
      c.descriptors.invariant.2 ∙ c.entries.invariant.2,
      omega (arith, here.inside),
    )

pub returns-after-entries : goal.returns-after-entries
returns-after-entries c =
    let e = c.entries in
    ap told_hit e.invariant.2
    ∙ sym (ap (λ (t : Trail (List Placed) Said). hit_from c.args.tag e.number t.items)
    (at-end c.args.bytes.now c.args.fixed e.p c.requires.0 c.entries-test.false))
    ∙ e.invariant.0
