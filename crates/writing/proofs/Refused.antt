-- What a writer refuses is what no descriptor is read as, and it writes again exactly the usual descriptors.
use mathlib.Core.Path.{◌≡◌, refl, sym, ◌∙◌}
use mathlib.Core.Logic.{◌↔◌}
use mathlib.Core.List.{List}
use Prim.Native.Nat.{ℕ}
use Rattle.wire.specs.Bytes.{Bytes}
use Rattle.wire.specs.Reading.{Reading, value, refused}
use Rattle.wire.proofs.ReadingLaws.{value_is, never}
use Rattle.clock.specs.Fault.{Answered}
use Rattle.writing.specs.Reverse.{Reverse, NoDescriptor}

module _ {F : Type 0} {Lent : F → Type 0} {read : List ℕ → Answered F} {write : F → Reading (List ℕ)}
    {Usual : List ℕ → Type 0} (law : Reverse Lent read write Usual) where
  -- "no other input is refused": 112 or 113 is given exactly for fields that no descriptor is read as
  pub refused_exactly : (f : F) → Lent f → ((k : ℕ) × (write f ≡ refused k)) ↔ NoDescriptor read f
  refused_exactly f lent = (
    λ x s bytes e. let w = law.written s f bytes e in never (sym w.1 ∙ x.1),
    back (write f) refl,
  )
    where
      back : (d : Reading (List ℕ)) → write f ≡ d → NoDescriptor read f → (k : ℕ) × (write f ≡ refused k)
      back (value s) e none = absurd (none s (law.bytes f s lent e) (law.reads_back f s lent e))
      back (refused k) e none = (k, e)

  -- a descriptor is written again exactly if it is usual
  pub again_exactly : (s : List ℕ) (f : F) → Bytes s → read s ≡ value f → (write f ≡ value s) ↔ Usual s
  again_exactly s f bytes e =
      (λ w. law.usual f s (law.lent s f bytes e) w, λ u. law.writes_back s f bytes u e)

  -- two fields that are written alike are the same
  pub written_apart : (f g : F) (s : List ℕ) → Lent f → Lent g → write f ≡ value s → write g ≡ value s → f ≡ g
  written_apart f g s a b e h = value_is (sym (law.reads_back f s a e) ∙ law.reads_back g s b h)
