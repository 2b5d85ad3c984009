-- The search gives the first hit in reading order, or none where there is none, and refuses as the judge does.
use Prim.Native.Nat.{ℕ, suc, ◌+◌}
use mathlib.Core.Path.{◌≡◌, refl, ap, ap₂, ◌∙◌, sym, subst}
use mathlib.Core.Logic.{◌⊎◌, inl, inr, ◌↔◌}
use mathlib.Core.List.{List, [], ◌∷◌}
use native.Mathlib.Decide.{ℕ_discrete}
use borrow.Author.Tests.{eq-eqb, ne_eqb}
use native.Mathlib.Omega.{arith}
use lib.ListN.{length, get_or, take, drop}
use Rattle.wire.specs.Parts.{Part}
use Rattle.wire.proofs.PartLaws.{part_second, part_taken}
use Rattle.verdict.specs.Verdict.{Said, accepted, refused, is_accepted}
use Rattle.loops.specs.Descriptors.{Placed}
use Rattle.section.specs.Reading.{LoopsRead, judged}
use Rattle.section.specs.Grammar.{Section}
use Rattle.section.specs.Faults.{First}
use Rattle.search.specs.Search as search
use Rattle.search.specs.Search.{Outcome, refusing, hit, hit_in, hit_from, sought, body_of, Without, more, FirstIn, FirstHit, Nowhere, Claims}
use Rattle.section.specs.Demands as demands
use Rattle.section.proofs.Exactly.{verdict_true, section_read, section_judged, first_judged}
use Rattle.loops.specs.Walking as standing
use Rattle.loops.specs.Walking.{Standing, bytes_of}
use Rattle.section.specs.Standing as handed
use Rattle.section.specs.Standing.{AllStanding}
use Rattle.section.proofs.Handed.{section_stands}

-- what a search says of a descriptor in the loop of number k
abbrev pub hit_of : ℕ → Placed → Outcome
hit_of k d = hit k (d.place + 2) (length d.body)

-- ---- one loop

without_in : (k : ℕ) (later : Outcome) {tag : ℕ} {ds : List Placed} → Without tag ds → hit_in tag k ds later ≡ later
without_in k later search.Without.none = refl
without_in k later {tag} (more d n w) = rw (ne_eqb d.tag tag n) (without_in k later w)

first_in : (k : ℕ) (later : Outcome) {tag : ℕ} {ds : List Placed} {d : Placed} → FirstIn tag ds d → hit_in tag k ds later ≡ hit_of k d
first_in k later {tag} (search.FirstIn.here d e) = rw (eq-eqb d.tag tag e)
first_in k later {tag} (search.FirstIn.later x n f) = rw (ne_eqb x.tag tag n) (first_in k later f)

in_cases : (tag : ℕ) (ds : List Placed) → ((d : Placed) × FirstIn tag ds d) ⊎ Without tag ds
in_cases tag [] = inr search.Without.none
in_cases tag (d ∷ ds) = go (ℕ_discrete d.tag tag) (in_cases tag ds)
  where
    go : Dec (d.tag ≡ tag) → ((x : Placed) × FirstIn tag ds x) ⊎ Without tag ds
        → ((x : Placed) × FirstIn tag (d ∷ ds) x) ⊎ Without tag (d ∷ ds)
    go (yes e) r = inl (d, search.FirstIn.here d e)
    go (no n) (inl (x, f)) = inl (x, search.FirstIn.later d n f)
    go (no n) (inr w) = inr (more d n w)

-- ---- the loops from number k on

nowhere_from : {tag : ℕ} (k : ℕ) {loops : List (List Placed)} → Nowhere tag loops → hit_from tag k loops ≡ search.none
nowhere_from k search.Nowhere.none = refl
nowhere_from k (search.Nowhere.more w n) = without_in k _ w ∙ nowhere_from (k + 1) n

first_from : {tag k j : ℕ} {loops : List (List Placed)} {d : Placed} → FirstHit tag k loops j d → hit_from tag k loops ≡ hit_of j d
first_from {k = k} (search.FirstHit.here f) = first_in k _ f
first_from {k = k} (search.FirstHit.later w f) = without_in k _ w ∙ first_from f

from_cases : (tag k : ℕ) (loops : List (List Placed)) → ((j : ℕ) × (d : Placed) × FirstHit tag k loops j d) ⊎ Nowhere tag loops
from_cases tag k [] = inr search.Nowhere.none
from_cases tag k (ds ∷ loops) = go (in_cases tag ds) (from_cases tag (k + 1) loops)
  where
    go : ((d : Placed) × FirstIn tag ds d) ⊎ Without tag ds →
        ((j : ℕ) × (d : Placed) × FirstHit tag (k + 1) loops j d) ⊎ Nowhere tag loops
        → ((j : ℕ) × (d : Placed) × FirstHit tag k (ds ∷ loops) j d) ⊎ Nowhere tag (ds ∷ loops)
    go (inl (d, f)) r = inl (k, d, search.FirstHit.here f)
    go (inr w) (inl (j, d, f)) = inl (j, d, search.FirstHit.later w f)
    go (inr w) (inr n) = inr (search.Nowhere.more w n)

-- ---- the section

module _ (s : List ℕ) (tag : ℕ) where
  -- in a section the loops of the grammar are searched
  pub section_sought : (loops : List (List Placed)) → Section s loops → sought s tag ≡ hit_from tag 0 loops
  unfolding sought
  section_sought loops x =
      rw (ap is_accepted (section_judged s loops x)) (ap (λ (r : LoopsRead). hit_from tag 0 r.items) (section_read s loops x))

  first_sought : (k q : ℕ) → First s k q → sought s tag ≡ refusing k q
  unfolding sought
  first_sought k q f = rw (first_judged s f)

  outcome_true : Claims s tag (sought s tag)
  outcome_true = go (judged s) refl (verdict_true s)
    where
      searched : (loops : List (List Placed)) → Section s loops
          → ((j : ℕ) × (d : Placed) × FirstHit tag 0 loops j d) ⊎ Nowhere tag loops → Claims s tag (sought s tag)
      searched loops x (inl (j, d, f)) = subst (Claims s tag) (sym (section_sought loops x ∙ first_from f)) (loops, d, x, f, refl, refl)
      searched loops x (inr n) = subst (Claims s tag) (sym (section_sought loops x ∙ nowhere_from 0 n)) (loops, x, n)

      go : (v : Said) → judged s ≡ v → demands.Claims s v → Claims s tag (sought s tag)
      go accepted e (loops, x) = searched loops x (from_cases tag 0 loops)
      go (refused k q) e f = subst (Claims s tag) (sym (first_sought k q f)) f

  -- "the first hit, in reading order, .. with 0 for the top loop or the entry's number from 1"
  pub hit_exactly_if : (k b n : ℕ) → sought s tag ≡ hit k b n ↔ Claims s tag (hit k b n)
  hit_exactly_if k b n = (
    λ e. subst (Claims s tag) e outcome_true,
    λ x. section_sought x.0 x.2 ∙ first_from x.3 ∙ ap₂ (hit k) (sym x.4) (sym x.5),
  )

  -- "or "none""
  pub none_exactly_if : sought s tag ≡ search.none ↔ Claims s tag search.none
  none_exactly_if = (λ e. subst (Claims s tag) e outcome_true, λ x. section_sought x.0 x.1 ∙ nowhere_from 0 x.2)

  -- "It refuses 1 to 10 first."
  pub refused_exactly_if : (k q : ℕ) → sought s tag ≡ refusing k q ↔ First s k q
  refused_exactly_if k q = (λ e. subst (Claims s tag) e outcome_true, first_sought k q)

-- "0 for the top loop or the entry's number from 1": the number of a hit is the place of its loop in the list of the
-- loops, whose first is the top loop
pub hit_in_loop : (tag k j : ℕ) (loops : List (List Placed)) (d : Placed) → FirstHit tag k loops j d
    → (n : ℕ) × (j ≡ k + n) × FirstIn tag (get_or loops n []) d
hit_in_loop tag k j [] d x = elim x [ ]
hit_in_loop tag k j (ds ∷ loops) d (search.FirstHit.here f) = (0, omega arith, f)
hit_in_loop tag k j (ds ∷ loops) d (search.FirstHit.later w f) = go (hit_in_loop tag (k + 1) j loops d f)
  where
    go : (n : ℕ) × (j ≡ k + 1 + n) × FirstIn tag (get_or loops n []) d → (n : ℕ) × (j ≡ k + n) × FirstIn tag (get_or (ds ∷ loops) n []) d
    go (n, e, g) = (suc n, omega arith, g)

-- ---- the part handed out

in_loop : {s : List ℕ} {tag : ℕ} {ds : List Placed} {d : Placed} → Standing s ds → FirstIn tag ds d → Part s d.place (bytes_of d)
in_loop standing.Standing.none x = elim x [ ]
in_loop (standing.Standing.more d p h) (search.FirstIn.here x e) = p
in_loop (standing.Standing.more d p h) (search.FirstIn.later x n f) = in_loop h f

in_loops : {s : List ℕ} {tag k j : ℕ} {loops : List (List Placed)} {d : Placed} → AllStanding s loops
    → FirstHit tag k loops j d → Part s d.place (bytes_of d)
in_loops handed.AllStanding.none x = elim x [ ]
in_loops (handed.AllStanding.more h r) (search.FirstHit.here f) = in_loop h f
in_loops {k = k} (handed.AllStanding.more h r) (search.FirstHit.later w f) = in_loops {k = k + 1} r f

-- "gives the body as a part of the caller's bytes": the place and size of a hit name a part of the section, and that part is the body
pub hit_part : (s : List ℕ) (tag k b n : ℕ) → sought s tag ≡ hit k b n
    → (d : Placed) × Part s b d.body × (n ≡ length d.body) × (body_of s (sought s tag) ≡ d.body)
hit_part s tag k b n e = go ((hit_exactly_if s tag k b n).0 e)
  where
    go : Claims s tag (hit k b n) → (d : Placed) × Part s b d.body × (n ≡ length d.body) × (body_of s (sought s tag) ≡ d.body)
    go (loops, d, x, f, p, q) =
        let w : Part s b d.body =
        subst (λ i. Part s i d.body) (sym p)
        (part_second (d.tag ∷ length d.body ∷ []) d.body (in_loops (section_stands s loops x) f)) in
        (d, w, q, ap (body_of s) e ∙ ap (λ m. take m (drop b s)) q ∙ part_taken w)
