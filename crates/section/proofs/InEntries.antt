-- Entries: they are in the grammar or have a first fault, and the reading says which.
use Prim.Native.Nat.{ℕ, zero, suc, ◌+◌, ◌-◌, ◌<◌, ◌≤◌}
use mathlib.Core.Path.{◌≡◌, refl, ap, ◌∙◌, sym, subst}
use mathlib.Core.Logic.{◌⊎◌, inl, inr}
use mathlib.Core.Bool.{false}
use mathlib.Core.List.{List, [], ◌∷◌, ◌++◌}
use native.Mathlib.Omega.{arith}
use native.Mathlib.Decide.{dec_le}
use borrow.Author.Tests.{lt-ltb, le-ltb}
use lib.ListN.{length, take, drop, length-append, length-drop, take-append-drop}
use lib.Seq.{take-append_seam, drop-append_seam, drop-drop, drop_at, length-take-le}
use lib.Dec.{ltb}
use Rattle.wire.specs.Bytes.{len12_at}
use Rattle.wire.specs.Trail.{ended, before, answer, onward}
use Rattle.wire.proofs.PartLaws.{len12_front}
use Rattle.verdict.specs.Verdict.{accepted, refused}
use Rattle.loops.specs.Descriptors.{Placed, descriptors}
use Rattle.section.specs.Entries.{whole, past, entries}
use Rattle.section.specs.Grammar.{Head, Entries, none, one}
use Rattle.loops.specs.Grammar.{Descriptors}
use Rattle.section.specs.Faults as faults
use Rattle.section.specs.Faults.{EntryFault, short, own, later}
use Rattle.loops.proofs.InLoop as in_loop
use Rattle.section.proofs.EntryLoops.{entries_by, entries_whole}

module _ (fixed : ℕ) (two : 2 ≤ fixed) where
  -- an entry's fixed bytes at the front, with the loop length n that they end in
  headed : (p n : ℕ) (head l : List ℕ) → length head ≡ fixed → len12_at head (fixed - 2) ≡ n
      → entries fixed p (head ++ l) ≡ onward (λ r. entries fixed r.place r.bytes) (whole fixed n p (head ++ l))
  headed p n head l e f =
      entries_whole fixed (omega arith) p (head ++ l) (omega (arith, length-append head l))
      ∙ ap (λ k. onward (λ r. entries fixed r.place r.bytes) (whole fixed k p (head ++ l)))
      (len12_front head l (fixed - 2) (omega arith) ∙ f)

  fits : (head l : List ℕ) → length head ≡ fixed → ltb (length (head ++ l)) fixed ≡ false
  fits head l e = le-ltb (length (head ++ l)) fixed (omega (arith, length-append head l))

  pub head_short : (p : ℕ) (l : List ℕ) → 0 < length l → length l < fixed → entries fixed p l ≡ ended (refused 10 p)
  head_short p l some h = entries_whole fixed (omega arith) p l some ∙ rw (lt-ltb (length l) fixed h)

  pub head_past : (p : ℕ) (head l : List ℕ) → length head ≡ fixed → length l < len12_at head (fixed - 2)
      → entries fixed p (head ++ l) ≡ ended (refused 8 (p + (fixed - 2)))
  head_past p head l e h =
      headed p _ head l e refl
      ∙ rw (fits head l e, lt-ltb (length (head ++ l)) (fixed + len12_at head (fixed - 2)) (omega (arith, length-append head l)))

  -- an entry with its loop at the front
  entry : (p : ℕ) (head body l : List ℕ) → Head fixed head body
      → entries fixed p (head ++ (body ++ l))
      ≡ onward (λ r. entries fixed r.place r.bytes) (past (p + fixed + length body) l (descriptors (p + fixed) body))
  entry p head body l h =
      let n : ℕ = length body in
      let a : drop fixed (head ++ (body ++ l)) ≡ body ++ l = drop_at head (body ++ l) fixed h.size in
      let b : drop (fixed + n) (head ++ (body ++ l)) ≡ l =
      sym (drop-drop n fixed (head ++ (body ++ l))) ∙ ap (drop n) a ∙ drop-append_seam body l in
      headed p n head (body ++ l) h.size h.says
      ∙ rw (
        fits head (body ++ l) h.size,
        le-ltb (length (head ++ (body ++ l))) (fixed + n) (omega (arith, h.size, length-append head (body ++ l), length-append body l)),
        a,
        b,
        take-append_seam body l,
      )

  pub entry_fault : (p k q : ℕ) (head body l : List ℕ) → Head fixed head body → (descriptors (p + fixed) body).ends ≡ refused k q
      → entries fixed p (head ++ (body ++ l)) ≡ ended (refused k q)
  entry_fault p k q head body l h f = entry p head body l h ∙ rw f

  pub entry_on : (p : ℕ) (head body l : List ℕ) (ds : List Placed) → Head fixed head body
      → descriptors (p + fixed) body ≡ record { items = ds; ends = accepted }
      → entries fixed p (head ++ (body ++ l)) ≡ before ds (entries fixed (p + fixed + length body) l)
  entry_on p head body l ds h f =
      entry p head body l h
      ∙ ap (λ d. onward (λ r. entries fixed r.place r.bytes) (past (p + fixed + length body) l d)) f

  -- what the grammar has is read without a fault
  pub read_whole : {p : ℕ} {l : List ℕ} {loops : List (List Placed)} → Entries fixed p l loops
      → entries fixed p l ≡ record { items = loops; ends = accepted }
  read_whole {p} none = entries_by fixed (omega arith) p []
  read_whole {p} (one head body {l = l} {ds = ds} h d e) =
      entry_on p head body l ds h (in_loop.read_whole d) ∙ ap (before ds) (read_whole e)

  -- the first fault is what the reading says
  pub read_fault : {p k q : ℕ} {l : List ℕ} → EntryFault fixed p l k q → (entries fixed p l).ends ≡ refused k q
  read_fault {p} (short {l = l} some h) = ap answer (head_short p l some h)
  read_fault {p} (faults.EntryFault.past head l e h) = ap answer (head_past p head l e h)
  read_fault {p} (own {q = q} head body l h f) = ap answer (entry_fault p 9 q head body l h (in_loop.read_fault f))
  read_fault {p} (later head body {l = l} {ds = ds} h d f) = ap answer (entry_on p head body l ds h (in_loop.read_whole d)) ∙ read_fault f

  -- there is no third case
  abbrev pub Either : ℕ → List ℕ → Type 0
  Either p l = ((loops : List (List Placed)) × Entries fixed p l loops) ⊎ ((k : ℕ) × (q : ℕ) × EntryFault fixed p l k q)

  behind : (p : ℕ) (head body l : List ℕ) (ds : List Placed) → Head fixed head body → Descriptors (p + fixed) body ds
      → Either (p + fixed + length body) l
      → Either p (head ++ (body ++ l))
  behind p head body l ds h d (inl (loops, e)) = inl (ds ∷ loops, one head body h d e)
  behind p head body l ds h d (inr (k, q, f)) = inr (k, q, later head body h d f)

  at_head : (p : ℕ) (head body l : List ℕ) → Head fixed head body → Either (p + fixed + length body) l → in_loop.Either (p + fixed) body
      → Either p (head ++ (body ++ l))
  at_head p head body l h e (inl (ds, d)) = behind p head body l ds h d e
  at_head p head body l h e (inr (q, f)) = inr (9, q, own head body l h f)

  cut : (p : ℕ) (head l : List ℕ) → length head ≡ fixed → ((q : ℕ) (m : List ℕ) → length m ≤ length l → Either q m)
      → Dec (len12_at head (fixed - 2) ≤ length l) → Either p (head ++ l)
  cut p head l e ih (yes i) =
      let n : ℕ = len12_at head (fixed - 2) in
      let f : length (take n l) ≡ n = length-take-le n l i in
      subst (λ (x : List ℕ). Either p (head ++ x)) (take-append-drop n l)
      (at_head p head (take n l) (drop n l) (record { size = e; says = sym f }) (ih _ (drop n l) (omega (arith, length-drop n l)))
      (in_loop.whole_or_fault (p + fixed) (take n l)))
  cut p head l e ih (no i) = inr (8, p + (fixed - 2), faults.EntryFault.past head l e (omega arith))

  bounded : (n p : ℕ) (l : List ℕ) → length l < n → Either p l
  bounded zero p l h = absurd (omega arith)
  bounded (suc n) p [] h = inl ([], none)
  bounded (suc n) p (b ∷ l) h = go (λ q m i. bounded n q m i) (dec_le fixed (suc (length l)))
    where
      go : ((q : ℕ) (m : List ℕ) → length m < n → Either q m) → Dec (fixed ≤ suc (length l)) → Either p (b ∷ l)
      go ih (yes i) =
          let e : length (take fixed (b ∷ l)) ≡ fixed = length-take-le fixed (b ∷ l) i in
          subst (Either p) (take-append-drop fixed (b ∷ l))
          (cut p (take fixed (b ∷ l)) (drop fixed (b ∷ l)) e (λ q m j. ih q m (omega (arith, length-drop fixed (b ∷ l)))) (dec_le _ _))
      go ih (no i) = inr (10, p, short {l = b ∷ l} (omega arith) (omega arith))

  pub whole_or_fault : (p : ℕ) (l : List ℕ) → Either p l
  whole_or_fault p l = bounded (suc (length l)) p l (omega arith)
