-- A writer of a body that a layout fills is the reverse of its reading.
use Prim.{Unit, tt}
use mathlib.Core.Path.{◌≡◌, refl, sym, ap, ◌∙◌, subst}
use mathlib.Core.Logic.{◌↔◌, ◌⊎◌, inl}
use mathlib.Core.Bool.{Bool, true, false}
use mathlib.Core.List.{List, ◌∷◌}
use Prim.Native.Nat.{ℕ, zero, suc, ◌*◌, ◌<◌, ◌≤◌}
use native.Mathlib.Omega.{arith}
use lib.ListN.{length, get_or, drop}
use Rattle.wire.specs.Bytes.{Bytes}
use Rattle.wire.specs.Reading.{Reading, value, refused, ◌>>=◌}
use Rattle.wire.proofs.IfLaws.{if-case}
use Rattle.wire.proofs.ReadingLaws.{value_is, never, refused_is}
use Rattle.forms.specs.Fields.{Field}
use Rattle.clock.specs.Fault.{Answered}
use Rattle.layout.specs.Widths.{bits, keptIn, Holds}
use Rattle.layout.proofs.WidthLaws.{body_bytes}
use Rattle.writing.specs.Fill.{made, ReservedIn, below, capacities}
use Rattle.writing.specs.Written.{inside, headed}
use Rattle.writing.specs.Reverse.{Reverse, FieldExactly}
use Rattle.writing.proofs.Answers.{headed-value}
use Rattle.writing.proofs.Below.{below_each, not_below}
use Rattle.writing.proofs.Made.{Laid, made_length, made_bytes, made_kept, made_reserved, kept_inside, made_again}

-- bytes behind a tag and their number
pub headed_bytes : (tag : ℕ) (b : List ℕ) → tag < 256 → length b ≤ 255 → Bytes b → Bytes (tag ∷ length b ∷ b)
headed_bytes tag b t l h zero = t
headed_bytes tag b t l h (suc zero) = omega arith
headed_bytes tag b t l h (suc (suc i)) = h i

module _ {F : Type 0} (tag n : ℕ) (tagged : tag < 256) (short : n ≤ 255) (by : ℕ → ℕ) (laid : Laid by)
    (layout : F → List Field) (fills : (f : F) → bits (layout f) ≡ 8 * n) (shown : F → List ℕ) (ok : F → Bool)
    (Right : F → Type 0)
    (right : (f : F) → ok f ≡ true ↔ Right f × (below (shown f) (capacities (layout f)) ≡ true))
    (read : List ℕ → Answered F)
    (exactly : (s : List ℕ) → Bytes s → (f : F) → read s ≡ value f ↔ Right f × Holds tag (layout f) s (shown f)) where
  abbrev body : F → List ℕ
  body f = made by (layout f) (shown f)

  abbrev whole : F → List ℕ
  whole f = tag ∷ length (body f) ∷ body f

  abbrev write : F → Reading (List ℕ)
  write f = inside (ok f) (body f) >>= headed tag

  body_length : (f : F) → length (body f) ≡ n
  body_length f = made_length (layout f) n (fills f) by (shown f)

  body_short : (f : F) → length (body f) ≤ 255
  body_short f = let e = body_length f in omega arith

  write_whole : (f : F) → ok f ≡ true → write f ≡ value (whole f)
  write_whole f o = ap (λ b. inside b (body f) >>= headed tag) o ∙ headed-value tag (body f) (body_short f)

  write_outside : (f : F) → ok f ≡ false → write f ≡ refused 112
  write_outside f o = ap (λ b. inside b (body f) >>= headed tag) o

  -- either, by the test
  either : (f : F) (P : Reading (List ℕ) → Type 0) → (ok f ≡ true → P (value (whole f)))
      → (ok f ≡ false → P (refused 112)) → P (write f)
  either f P so not_so =
      if-case (λ r. P (r >>= headed tag)) (ok f)
      (λ o. subst P (sym (headed-value tag (body f) (body_short f))) (so o)) not_so

  write_value : (f : F) (s : List ℕ) → write f ≡ value s → (ok f ≡ true) × (whole f ≡ s)
  write_value f s =
      either f (λ r. r ≡ value s → (ok f ≡ true) × (whole f ≡ s)) (λ o e. (o, value_is e)) (λ _ e. absurd (never (sym e)))

  whole_bytes : (f : F) → Bytes (whole f)
  whole_bytes f = headed_bytes tag (body f) tagged (body_short f) (made_bytes (layout f) n (fills f) by (shown f))

  -- "Reading back gives the fields"
  whole_read : (f : F) → ok f ≡ true → read (whole f) ≡ value f
  whole_read f o =
      let x = (right f).0 o in
      (exactly (whole f) (whole_bytes f) f).1 (
        x.0,
        record {
          body = body f;
          framed = refl;
          filled = fills f ∙ ap (λ j. 8 * j) (sym (body_length f));
          fields = made_kept (layout f) n (fills f) by (shown f) laid x.1;
        },
      )

  module _ (s : List ℕ) (f : F) (bytes : Bytes s) (e : read s ≡ value f) where
    held : Right f × Holds tag (layout f) s (shown f)
    held = (exactly s bytes f).0 e

    held_body : List ℕ
    held_body = held.1.body

    held_length : length held_body ≡ n
    unfolding held_body
    held_length = let h = held.1.filled in let g = fills f in omega arith

    held_bytes : Bytes held_body
    unfolding held_body
    held_bytes = body_bytes held.1.body held.1.framed bytes

    -- "no other input is refused"
    pub read_inside : ok f ≡ true
    unfolding held_body
    read_inside =
        (right f).1 (
          held.0,
          subst (λ vs. below vs (capacities (layout f)) ≡ true) held.1.fields
              (kept_inside (layout f) n (fills f) held_body held_bytes held_length),
        )

    -- "writing what was read gives the bytes"
    written_again : ReservedIn by (layout f) (drop 2 s) → whole f ≡ s
    unfolding held_body
    written_again r =
        let b : List ℕ = held.1.body in
        let same : drop 2 s ≡ b = ap (drop 2) held.1.framed in
        let made-b : made by (layout f) (keptIn (layout f) b) ≡ b =
        made_again (layout f) n (fills f) b held_bytes held_length by (subst (ReservedIn by (layout f)) same r) in
        ap (λ l. tag ∷ length l ∷ l) (ap (made by (layout f)) (sym held.1.fields) ∙ made-b) ∙ sym held.1.framed

  -- Usual is that the reserved fields of the layout have what is laid down for them
  module _ (Usual : List ℕ → Type 0)
      (usual : (s : List ℕ) (f : F) → Bytes s → read s ≡ value f → Usual s ↔ ReservedIn by (layout f) (drop 2 s)) where
    pub reverse : Reverse (λ (f : F). Unit {0}) read write Usual
    reverse = record {
      reads_back = λ f s _ e. let x = write_value f s e in subst (λ t. read t ≡ value f) x.1 (whole_read f x.0);
      writes_back = λ s f bytes u e.
          write_whole f (read_inside s f bytes e)
          ∙ ap value (written_again s f bytes e ((usual s f bytes e).0 u));
      usual = λ f s _ e.
          let x = write_value f s e in
          subst Usual x.1 ((usual (whole f) f (whole_bytes f) (whole_read f x.0)).1
          (made_reserved (layout f) n (fills f) by (shown f) laid ((right f).0 x.0).1));
      bytes = λ f s _ e. subst Bytes (write_value f s e).1 (whole_bytes f);
      lent = λ _ _ _ _. tt;
      written = λ s f bytes e. (whole f, write_whole f (read_inside s f bytes e));
      numbers = λ f k. either f (λ r. r ≡ refused k → (k ≡ 112) ⊎ (k ≡ 113)) (λ _ e. absurd (never e))
          (λ _ e. inl (sym (refused_is e)));
    }

  -- a body of this size is never too long
  pub never_long : (f : F) → write f ≡ refused 113 → ⊥
  never_long f =
      either f (λ r. r ≡ refused 113 → ⊥) (λ _ e. never e)
      (λ _ e. let z : ◌≡◌ {A = ℕ} 112 113 = refused_is e in omega arith)

  -- the test is one of numbers against limits
  module _ (numbers : F → List ℕ) (limits : List ℕ) (many : (f : F) → length (numbers f) ≡ length limits)
      (test : (f : F) → ok f ≡ below (numbers f) limits) where
    pub field_exactly : FieldExactly (λ (f : F). Unit {0}) read write numbers
    field_exactly f _ = (
      either f (λ r. r ≡ refused 112 → Outside) (λ _ e. absurd (never e))
          (λ o _.
          let x = not_below (numbers f) limits (many f) (sym (test f) ∙ o) in (
            x.0,
            λ s g bytes e q.
                let o' = sym (test g) ∙ read_inside s g bytes e in
                let l = below_each (numbers g) limits o' x.0 x.1 in
                omega (arith, x.2, l, q),
          )),
      λ x. either f (λ r. r ≡ refused 112)
          (λ o. absurd (x.1 (whole f) f (whole_bytes f) (whole_read f o) refl)) (λ _. refl),
    )
      where
        Outside : Type 0
        Outside = (i : ℕ) × ((s : List ℕ) (g : F) → Bytes s → read s ≡ value g → get_or (numbers g) i 0 ≡ get_or (numbers f) i 0 → ⊥)
