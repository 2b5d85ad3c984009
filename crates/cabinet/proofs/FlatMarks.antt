-- Flat numbers and the marks that they stand for.
use Prim.Native.Nat.{ℕ, ◌+◌, ◌-◌, ◌*◌, ◌/◌, ◌%◌, ◌<◌}
use mathlib.Core.Path.{◌≡◌, refl, sym, ap, ap₂, ◌∙◌}
use mathlib.Core.Bool.{Bool, true, false}
use mathlib.Core.List.{List, [], ◌++◌}
use native.Mathlib.Omega.{arith}
use lib.Dec.{eqb, ltb}
use lib.ListN.{length, take, drop, get_or, set, length-set, get_or-append}
use lib.Seq.{paste, length_paste_head, get_or-append-add, get_or-take, get_or-drop, length-take-le, get_or-set_same, get_or-set_other}
use borrow.Author.Tests.{eqb-true, eqb-false, ltb-true, ltb-false}
use Rattle.std.specs.Prelude.{if◌then◌else◌, Option, None, Some}
use Rattle.roll.specs.Marks.{blank, segment_at, has, unmarked, Whole}
use Rattle.cabinet.specs.Numbers.{bit, is_set}
use Rattle.cabinet.specs.Table.{table}
use Rattle.cabinet.specs.Roll.{end_in, known_says, end_says, segment_by, marks_by, came_in, ends_in}
use Rattle.cabinet.specs.Inner.Rolls.{flags_kept, numbersOf, known_kept, ends_settled, eight_of, segment_in, marks_of}
use Rattle.cabinet.proofs.TableLaws.{table_long, table_at, table_is, table_same}
use Rattle.roll.specs.declared.Marks.{Marks}
use Rattle.roll.specs.declared.Segment.{Segment}

-- ---- marks by their numbers

module _ (came : ℕ → Bool) (end : ℕ → Option ℕ) where
  pub segment_by_lem : (k : ℕ) → k < 32 → segment_at (marks_by came end) k ≡ segment_by came end k
  unfolding segment_at marks_by
  segment_by_lem k h = table_at 32 (segment_by came end) k (record { end = None; came = [] }) h

  pub has_by : (n : ℕ) → n < 256 → has (marks_by came end) n ≡ came n
  unfolding has segment_by
  has_by n h =
      let whole : n / 8 * 8 + n % 8 ≡ n = omega arith in
      ap (λ (s : Segment). get_or s.came (n % 8) false) (segment_by_lem (n / 8) (omega arith))
      ∙ table_at 8 (λ i. came (n / 8 * 8 + i)) (n % 8) false (omega arith) ∙ ap came whole

  pub end_by : (k : ℕ) → k < 32 → (segment_at (marks_by came end) k).end ≡ end k
  unfolding segment_by
  end_by k h = ap (λ (s : Segment). s.end) (segment_by_lem k h)

  pub by_whole : Whole (marks_by came end)
  unfolding Whole marks_by segment_by
  by_whole = (
    table_long 32 (segment_by came end),
    λ k h. ap (λ (s : Segment). length s.came) (segment_by_lem k h) ∙ table_long 8 (λ i. came (k * 8 + i)),
  )

-- two that agree on each number and each segment are the same marks
pub marks_same : (came come : ℕ → Bool) (end ends : ℕ → Option ℕ) → ((n : ℕ) → n < 256 → came n ≡ come n)
    → ((k : ℕ) → k < 32 → end k ≡ ends k) → marks_by came end ≡ marks_by come ends
unfolding marks_by segment_by
marks_same came come end ends c e =
    ap (λ (l : List Segment). record { segments = l })
    (table_same 32 (segment_by came end) (segment_by come ends) (λ k h.
    ap₂ (λ (x : Option ℕ) (l : List Bool). record { end = x; came = l }) (e k h)
    (table_same 8 (λ i. came (k * 8 + i)) (λ i. come (k * 8 + i)) (λ i l. c (k * 8 + i) (omega arith)))))

-- marks are those of their own numbers
pub marks_by_lem : (m : Marks) → Whole m → m ≡ marks_by (has m) (λ k. (segment_at m k).end)
unfolding Whole marks_by segment_by has segment_at
marks_by_lem m w =
    ap (λ (l : List Segment). record { segments = l })
    (table_is m.segments 32 (segment_by (has m) (λ k. (segment_at m k).end)) (record { end = None; came = [] }) w.0 each)
  where
    each : (k : ℕ) → k < 32 → get_or m.segments k (record { end = None; came = [] }) ≡ segment_by (has m) (λ k. (segment_at m k).end) k
    each k h =
        ap (λ (l : List Bool). record { end = (segment_at m k).end; came = l })
        (table_is (segment_at m k).came 8 (λ i. has m (k * 8 + i)) false (w.1 k h) (λ i l.
        let d : (k * 8 + i) / 8 ≡ k = omega arith in
        let r : (k * 8 + i) % 8 ≡ i = omega arith in
        rw (d, r)))

-- ---- an end in numbers

pub end_back : (e : Option ℕ) → end_in (known_says e) (end_says e) ≡ e
unfolding end_in known_says end_says
end_back None = refl
end_back (Some e) = refl

-- numbers that say an end as `known_says` and `end_says` do
abbrev Settled : ℕ → ℕ → Type 0
Settled known end = (known ≡ known_says (end_in known end)) × (end ≡ end_says (end_in known end))

says_settled : (e : Option ℕ) → Settled (known_says e) (end_says e)
says_settled e = (ap known_says (sym (end_back e)), ap end_says (sym (end_back e)))

-- ---- one segment put in the place of another, in flat numbers

module _ (flags eight : List Bool) (k : ℕ) (long : length flags ≡ 256) (size : length eight ≡ 8) (small : k < 32) where
  abbrev after : List Bool
  after = paste flags (k * 8) eight 8

  -- the eight with what stands before them
  abbrev front : List Bool
  front = take (k * 8) flags ++ take 8 eight

  front_long : length front ≡ k * 8 + 8
  front_long = length_paste_head flags (k * 8) eight 8 (omega (arith, long)) (omega (arith, size))

  first_long : length (take (k * 8) flags) ≡ k * 8
  first_long = length-take-le (k * 8) flags (omega (arith, long))

  before_eight : (n : ℕ) → n < k * 8 → get_or after n false ≡ get_or flags n false
  before_eight n h =
      get_or-append front (drop (k * 8 + 8) flags) false n (omega (arith, front_long))
      ∙ get_or-append (take (k * 8) flags) (take 8 eight) false n (omega (arith, first_long)) ∙ get_or-take (k * 8) flags n false h

  pub in_eight : (i : ℕ) → i < 8 → get_or after (k * 8 + i) false ≡ get_or eight i false
  in_eight i h =
      get_or-append front (drop (k * 8 + 8) flags) false (k * 8 + i) (omega (arith, front_long))
      ∙ ap (λ (n : ℕ). get_or front (n + i) false) (sym first_long)
      ∙ get_or-append-add (take (k * 8) flags) (take 8 eight) i false ∙ get_or-take 8 eight i false h

  behind_eight : (j : ℕ) → get_or after (k * 8 + 8 + j) false ≡ get_or flags (k * 8 + 8 + j) false
  behind_eight j =
      ap (λ (n : ℕ). get_or after (n + j) false) (sym front_long)
      ∙ get_or-append-add front (drop (k * 8 + 8) flags) j false ∙ get_or-drop (k * 8 + 8) flags j false

  pub beside_eight : (n : ℕ) → (n / 8 ≡ k → ⊥) → get_or after n false ≡ get_or flags n false
  beside_eight n other = go (ltb n (k * 8)) refl
    where
      go : (b : Bool) → ltb n (k * 8) ≡ b → get_or after n false ≡ get_or flags n false
      go true e = before_eight n (ltb-true n (k * 8) e)
      go false e =
          let l = ltb-false n (k * 8) e in
          let at : k * 8 + 8 + (n - (k * 8 + 8)) ≡ n = omega (arith, other) in
          ap (λ i. get_or after i false) (sym at) ∙ behind_eight (n - (k * 8 + 8)) ∙ ap (λ i. get_or flags i false) at

-- flat marks of which one segment is put in the place of another
module _ (flags : List Bool) (known ends : List ℕ) (k : ℕ) (g : Segment) (flags_long : length flags ≡ 256)
    (known_long : length known ≡ 32) (ends_long : length ends ≡ 32) (size : length g.came ≡ 8) (small : k < 32) where
  abbrev flags' : List Bool
  flags' = paste flags (k * 8) g.came 8

  abbrev known' : List ℕ
  known' = set known k (known_says g.end)

  abbrev ends' : List ℕ
  ends' = set ends k (end_says g.end)

  abbrev before : Marks
  before = marks_by (λ n. get_or flags n false) (ends_in known ends)

  abbrev put : Marks
  put = record { segments = set before.segments k g }

  known_there : get_or known' k 0 ≡ known_says g.end
  known_there = get_or-set_same known k (known_says g.end) 0 (omega (arith, known_long))

  ends_there : get_or ends' k 0 ≡ end_says g.end
  ends_there = get_or-set_same ends k (end_says g.end) 0 (omega (arith, ends_long))

  known_beside : (j : ℕ) → (j ≡ k → ⊥) → get_or known' j 0 ≡ get_or known j 0
  known_beside j h = get_or-set_other known k j (known_says g.end) 0 h

  ends_beside : (j : ℕ) → (j ≡ k → ⊥) → get_or ends' j 0 ≡ get_or ends j 0
  ends_beside j h = get_or-set_other ends k j (end_says g.end) 0 h

  segment_there : segment_by (λ n. get_or flags' n false) (ends_in known' ends') k ≡ g
  unfolding segment_by
  segment_there =
      ap₂ (λ (x : Option ℕ) (l : List Bool). record { end = x; came = l }) (ap₂ end_in known_there ends_there ∙ end_back g.end)
      (sym (table_is g.came 8 (λ i. get_or flags' (k * 8 + i) false) false size
      (λ i h. sym (in_eight flags g.came k flags_long size small i h))))

  segment_beside : (j : ℕ) → (j ≡ k → ⊥)
      → segment_by (λ n. get_or flags' n false) (ends_in known' ends') j ≡ segment_by (λ n. get_or flags n false) (ends_in known ends) j
  unfolding segment_by
  segment_beside j h =
      ap₂ (λ (x : Option ℕ) (l : List Bool). record { end = x; came = l }) (ap₂ end_in (known_beside j h) (ends_beside j h))
      (table_same 8 (λ i. get_or flags' (j * 8 + i) false) (λ i. get_or flags (j * 8 + i) false) (λ i l.
      let at : (j * 8 + i) / 8 ≡ j = omega arith in
      beside_eight flags g.came k flags_long size small (j * 8 + i) (λ e. h (sym at ∙ e))))

  -- it is one segment put in the place of another
  pub flat_put : put ≡ marks_by (λ n. get_or flags' n false) (ends_in known' ends')
  unfolding marks_by
  flat_put =
      ap (λ (l : List Segment). record { segments = l })
      (table_is (set before.segments k g) 32 (segment_by (λ n. get_or flags' n false) (ends_in known' ends'))
      (record { end = None; came = [] }) (length-set before.segments k g ∙ table_long 32 old) each)
    where
      old : ℕ → Segment
      old = segment_by (λ n. get_or flags n false) (ends_in known ends)

      each : (j : ℕ) → j < 32 → get_or (set before.segments k g) j (record { end = None; came = [] })
          ≡ segment_by (λ n. get_or flags' n false) (ends_in known' ends') j
      each j l = go (eqb j k) refl
        where
          go : (b : Bool) → eqb j k ≡ b → get_or (set before.segments k g) j (record { end = None; came = [] })
              ≡ segment_by (λ n. get_or flags' n false) (ends_in known' ends') j
          go true e =
              let same = eqb-true j k e in
              ap (λ (i : ℕ). get_or (set before.segments k g) i (record { end = None; came = [] })) same
              ∙ get_or-set_same before.segments k g (record { end = None; came = [] }) (omega (arith, table_long 32 old))
              ∙ sym segment_there ∙ ap (segment_by (λ n. get_or flags' n false) (ends_in known' ends')) (sym same)
          go false e =
              let other = eqb-false j k e in
              get_or-set_other before.segments k j g (record { end = None; came = [] }) other
              ∙ table_at 32 old j (record { end = None; came = [] }) l ∙ sym (segment_beside j other)

  -- and the numbers stay settled
  pub put_settled : ((j : ℕ) → j < 32 → Settled (get_or known j 0) (get_or ends j 0))
      → (j : ℕ) → j < 32 → Settled (get_or known' j 0) (get_or ends' j 0)
  put_settled h j l = go (eqb j k) refl
    where
      go : (b : Bool) → eqb j k ≡ b → Settled (get_or known' j 0) (get_or ends' j 0)
      go true e = let same = eqb-true j k e in rw (same, known_there, ends_there) (says_settled g.end)
      go false e = let other = eqb-false j k e in rw (known_beside j other, ends_beside j other) (h j l)

-- ---- one segment made of flat numbers

pub segment_of_lem : (flags : List Bool) (known ends : List ℕ) (k : ℕ) → k < 32
    → segment_at (marks_of flags known ends) k ≡ segment_in flags (get_or known k 0) (get_or ends k 0) k
unfolding segment_by eight_of
segment_of_lem flags known ends k h = segment_by_lem (λ n. get_or flags n false) (ends_in known ends) k h

-- ---- what is kept of the numbers before a section

bit_set : (b : Bool) → is_set (bit b) ≡ b
bit_set true = refl
bit_set false = refl

-- the numbers that are kept, or none
module _ (keep : Bool) (came known ends : List ℕ) where
  abbrev flags₀ : List Bool
  flags₀ = flags_kept keep came

  abbrev known₀ : List ℕ
  known₀ = known_kept keep known

  abbrev ends₀ : List ℕ
  ends₀ = ends_settled known₀ ends

  abbrev kept : ℕ → Bool
  kept k = if keep then is_set (get_or known k 0) else false

  pub flags_long : length flags₀ ≡ 256
  unfolding flags_kept
  flags_long = table_long 256 _

  pub known_long : length known₀ ≡ 32
  unfolding known_kept
  known_long = table_long 32 _

  pub ends_long : length ends₀ ≡ 32
  unfolding ends_settled
  ends_long = table_long 32 _

  flag_at : (n : ℕ) → n < 256 → get_or flags₀ n false ≡ (if keep then came_in came n else false)
  unfolding flags_kept
  flag_at n h = table_at 256 (λ i. if keep then came_in came i else false) n false h

  known_at : (k : ℕ) → k < 32 → get_or known₀ k 0 ≡ bit (kept k)
  unfolding known_kept
  known_at k h = table_at 32 (λ i. bit (kept i)) k 0 h

  end-at : (k : ℕ) → k < 32 → get_or ends₀ k 0 ≡ (if kept k then get_or ends k 0 else 0)
  unfolding ends_settled
  end-at k h =
      table_at 32 (λ i. if is_set (get_or known₀ i 0) then get_or ends i 0 else 0) k 0 h
      ∙ ap (λ (b : Bool). if b then get_or ends k 0 else 0) (ap is_set (known_at k h) ∙ bit_set (kept k))

  -- an end that is kept
  ends_at : (k : ℕ) → k < 32 → ends_in known₀ ends₀ k ≡ (if kept k then Some (get_or ends k 0) else None)
  unfolding end_in
  ends_at k h = rw (known_at k h, end-at k h) (go (kept k))
    where
      go : (b : Bool)
          → (if is_set (bit b) then Some (if b then get_or ends k 0 else 0) else None)
          ≡ (if b then Some (get_or ends k 0) else None)
      go true = refl
      go false = refl

  pub kept_settled : (k : ℕ) → k < 32 → Settled (get_or known₀ k 0) (get_or ends₀ k 0)
  unfolding known_says end_says
  kept_settled k h = rw (ends_at k h, known_at k h, end-at k h) (go (kept k))
    where
      go : (b : Bool) → (bit b ≡ known_says (if b then Some (get_or ends k 0) else None))
          × ((if b then get_or ends k 0 else 0) ≡ end_says (if b then Some (get_or ends k 0) else None))
      go true = (refl, refl)
      go false = (refl, refl)

none_marked : marks_by (λ _. false) (λ _. None) ≡ unmarked
unfolding marks_by segment_by table unmarked blank
none_marked = refl

-- the marks that are kept, or none
pub marks_kept : (keep : Bool) (came known ends : List ℕ)
    → marks_of (flags_kept keep came) (known_kept keep known) (ends_settled (known_kept keep known) ends)
    ≡ (if keep then marks_by (came_in came) (ends_in known ends) else unmarked)
unfolding end_in
marks_kept true came known ends =
    marks_same (λ n. get_or (flags_kept true came) n false) (came_in came) _ (ends_in known ends)
    (λ n h. flag_at true came known ends n h) (λ k h. ends_at true came known ends k h)
marks_kept false came known ends =
    marks_same (λ n. get_or (flags_kept false came) n false) (λ _. false) _ (λ _. None)
    (λ n h. flag_at false came known ends n h) (λ k h. ends_at false came known ends k h) ∙ none_marked

-- asked without a section, the ends need not be settled
pub marks_kept_all : (came known ends : List ℕ)
    → marks_of (flags_kept true came) known ends ≡ marks_by (came_in came) (ends_in known ends)
marks_kept_all came known ends =
    marks_same (λ n. get_or (flags_kept true came) n false) (came_in came) (ends_in known ends) (ends_in known ends)
    (λ n h. flag_at true came known ends n h) (λ k h. refl)

-- ---- flat numbers that are settled are those of their marks

module _ (flags : List Bool) (known ends : List ℕ) (known_long : length known ≡ 32) (ends_long : length ends ≡ 32)
    (settled : (k : ℕ) → k < 32 → Settled (get_or known k 0) (get_or ends k 0)) where
  abbrev marks : Marks
  marks = marks_of flags known ends

  pub came_says : numbersOf flags ≡ table 256 (λ n. bit (has marks n))
  unfolding numbersOf
  came_says =
      table_same 256 (λ n. bit (get_or flags n false)) (λ n. bit (has marks n))
      (λ n h. ap bit (sym (has_by (λ n. get_or flags n false) (ends_in known ends) n h)))

  pub known_says_lem : known ≡ table 32 (λ k. known_says (segment_at marks k).end)
  known_says_lem =
      table_is known 32 (λ k. known_says (segment_at marks k).end) 0 known_long
      (λ k h. (settled k h).0 ∙ ap known_says (sym (end_by (λ n. get_or flags n false) (ends_in known ends) k h)))

  pub ends_say : ends ≡ table 32 (λ k. end_says (segment_at marks k).end)
  ends_say =
      table_is ends 32 (λ k. end_says (segment_at marks k).end) 0 ends_long
      (λ k h. (settled k h).1 ∙ ap end_says (sym (end_by (λ n. get_or flags n false) (ends_in known ends) k h)))
