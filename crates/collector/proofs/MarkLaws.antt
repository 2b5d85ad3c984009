-- Laws of marks: the bytes of one fate, what becomes of them when what was in hand is settled, and the laws of lists that they rest on.
use Rattle.std.proofs.Common.{◌≡◌, ℕ, suc, ◌+◌, Bool, true, false, List, [], ◌∷◌, ◌++◌, map, length, sym, refl, ap, ◌∙◌, append_assoc, append-nil, arith}
use mathlib.Core.List.{map-append, flatten}
use Rattle.std.specs.Prelude.{if◌then◌else◌}
use Rattle.collector.specs.Rules.{Fate, in-hand, done, Mark, same_fate, out_of_hand, bytes_of, count_of, marked, settled}

-- ---- lists

alike_fate : (f f' g : Fate) → same_fate g f ≡ same_fate g f' → (k : Fate) → same_fate g (out_of_hand f k) ≡
    same_fate g (out_of_hand f' k)
alike_fate f f' g e (done k) = refl
alike_fate f f' g e in-hand = e

module _ {A : Type 0} where
  pub flatten_append : (a c : List (List A)) → flatten (a ++ c) ≡ flatten a ++ flatten c
  unfolding flatten
  flatten_append [] c = refl
  flatten_append (s ∷ a) c = ap (λ (l : List A). s ++ l) (flatten_append a c) ∙ sym (append_assoc s (flatten a) (flatten c))

  pub flatten_one : (s : List A) → flatten (s ∷ []) ≡ s
  unfolding flatten
  flatten_one s = append-nil s

  pub flatten_snoc : (a : List (List A)) (s : List A) → flatten (a ++ (s ∷ [])) ≡ flatten a ++ s
  flatten_snoc a s = flatten_append a (s ∷ []) ∙ ap (λ (l : List A). flatten a ++ l) (flatten_one s)

  pub if-cons : (t : Bool) (b : A) (x y : List A) → (if t then b ∷ x else x) ++ y ≡ (if t then b ∷ (x ++ y) else x ++ y)
  if-cons true b x y = refl
  if-cons false b x y = refl

  -- ---- the bytes of one fate

  pub bytes_of_append : (f : Fate) (a c : List (Mark A)) → bytes_of f (a ++ c) ≡ bytes_of f a ++ bytes_of f c
  bytes_of_append f [] c = refl
  bytes_of_append f (m ∷ a) c =
      ap (λ (l : List A). if same_fate f m.fate then m.byte ∷ l else l) (bytes_of_append f a c)
      ∙ sym (if-cons (same_fate f m.fate) m.byte (bytes_of f a) (bytes_of f c))

  marked_if : (t : Bool) (b : A) (l : List A) → (if t then b ∷ (if t then l else []) else (if t then l else [])) ≡
      (if t then b ∷ l else [])
  marked_if true b l = refl
  marked_if false b l = refl

  pub bytes_of_marked : (f g : Fate) (l : List A) → bytes_of f (marked g l) ≡ (if same_fate f g then l else [])
  bytes_of_marked f g [] = if-nil (same_fate f g)
    where
      if-nil : (t : Bool) → ◌≡◌ {A = List A} [] (if t then [] else [])
      if-nil true = refl
      if-nil false = refl
  bytes_of_marked f g (b ∷ l) = ap (λ (x : List A). if same_fate f g then b ∷ x else x) (bytes_of_marked f g l) ∙
      marked_if (same_fate f g) b l

  -- the bytes of a fate, with bytes of one fate after them
  pub bytes_of_more : (f g : Fate) (ms : List (Mark A)) (l : List A)
      → bytes_of f (ms ++ marked g l) ≡ bytes_of f ms ++ (if same_fate f g then l else [])
  bytes_of_more f g ms l = bytes_of_append f ms (marked g l) ∙ ap (λ (x : List A). bytes_of f ms ++ x) (bytes_of_marked f g l)

  pub marked_append : (f : Fate) (a c : List A) → marked f (a ++ c) ≡ marked f a ++ marked f c
  marked_append f a c = map-append _ a c

  -- ---- what was in hand is settled

  pub settled_append : (f : Fate) (a c : List (Mark A)) → settled f (a ++ c) ≡ settled f a ++ settled f c
  settled_append f a c = map-append _ a c

  pub settled_marked : (f g : Fate) (l : List A) → settled f (marked g l) ≡ marked (out_of_hand f g) l
  settled_marked f g [] = refl
  settled_marked f g (b ∷ l) = ap (λ (x : List (Mark A)). record { byte = b; fate = out_of_hand f g } ∷ x) (settled_marked f g l)

  pub settled_bytes : (f : Fate) (ms : List (Mark A)) → map (λ m. m.byte) (settled f ms) ≡ map (λ m. m.byte) ms
  settled_bytes f [] = refl
  settled_bytes f (m ∷ ms) = ap (λ (l : List A). m.byte ∷ l) (settled_bytes f ms)

  -- where a test finds after the settling what another finds before it, the bytes are the same
  settled_as : (f g h : Fate) → ((k : Fate) → same_fate g (out_of_hand f k) ≡ same_fate h k) → (ms : List (Mark A))
      → bytes_of g (settled f ms) ≡ bytes_of h ms
  settled_as f g h e [] = refl
  settled_as f g h e (m ∷ ms) =
      ap (λ (t : Bool). if t then m.byte ∷ bytes_of g (settled f ms) else bytes_of g (settled f ms)) (e m.fate)
      ∙ ap (λ (l : List A). if same_fate h m.fate then m.byte ∷ l else l) (settled_as f g h e ms)

  -- where a test finds of two fates the same, it does not matter to which of them what was in hand is settled
  pub settled_alike : (f f' g : Fate) → same_fate g f ≡ same_fate g f' → (ms : List (Mark A))
      → bytes_of g (settled f ms) ≡ bytes_of g (settled f' ms)
  settled_alike f f' g e [] = refl
  settled_alike f f' g e (m ∷ ms) =
      ap (λ (t : Bool). if t then m.byte ∷ bytes_of g (settled f ms) else bytes_of g (settled f ms)) (alike_fate f f' g e m.fate)
      ∙ ap (λ (l : List A). if same_fate g (out_of_hand f' m.fate) then m.byte ∷ l else l) (settled_alike f f' g e ms)

-- a fate that is neither in hand nor what this is settled to is found where it was
other_fate : (f g : Fate) → same_fate g f ≡ false → same_fate g in-hand ≡ false → (k : Fate) → same_fate g
    (out_of_hand f k) ≡ same_fate g k
other_fate f g e₁ e₂ (done k) = refl
other_fate f g e₁ e₂ in-hand = e₁ ∙ sym e₂

no_hand : (f : Fate) → same_fate in-hand f ≡ false → (k : Fate) → same_fate in-hand (out_of_hand f k) ≡ false
no_hand f e (done k) = refl
no_hand f e in-hand = e

twice_fate : (f g : Fate) → out_of_hand g f ≡ f → (k : Fate) → out_of_hand g (out_of_hand f k) ≡ out_of_hand f k
twice_fate f g e (done k) = refl
twice_fate f g e in-hand = e

module _ {A : Type 0} where
  pub settled_other : (f g : Fate) → same_fate g f ≡ false → same_fate g in-hand ≡ false → (ms : List (Mark A))
      → bytes_of g (settled f ms) ≡ bytes_of g ms
  settled_other f g e₁ e₂ ms = settled_as f g g (other_fate f g e₁ e₂) ms

  pub settled_hand : (f : Fate) → same_fate in-hand f ≡ false → (ms : List (Mark A)) → bytes_of in-hand (settled f ms) ≡ []
  settled_hand f e [] = refl
  settled_hand f e (m ∷ ms) =
      ap (λ (t : Bool). if t then m.byte ∷ bytes_of in-hand (settled f ms) else bytes_of in-hand (settled f ms))
      (no_hand f e m.fate)
      ∙ settled_hand f e ms

  pub settled_twice : (f g : Fate) → out_of_hand g f ≡ f → (ms : List (Mark A)) → settled g (settled f ms) ≡ settled f ms
  settled_twice f g e [] = refl
  settled_twice f g e (m ∷ ms) = λ i. record { byte = m.byte; fate = twice_fate f g e m.fate i } ∷ settled_twice f g e ms i

  gain_other : (t : Bool) (n : ℕ) (b : A) (x y : List A) → length x ≡ length y + n
      → length (if t then b ∷ x else x) ≡ length (if t then b ∷ y else y) + n
  gain_other true n b x y e = omega arith
  gain_other false n b x y e = e

  gain_hand : (t u : Bool) → u ≡ false → (b : A) (x y z : List A) → length x ≡ length y + (if t then length z else 0)
      → length (if t then b ∷ x else x) ≡ length (if u then b ∷ y else y) + (if t then suc (length z) else 0)
  gain_hand true u e b x y z w = rw e (omega arith)
  gain_hand false u e b x y z w = rw e w

  gain : (f g k : Fate) → same_fate f in-hand ≡ false → (b : A) (x y z : List A)
      → length x ≡ length y + (if same_fate f g then length z else 0)
      → length (if same_fate f (out_of_hand g k) then b ∷ x else x)
      ≡ length (if same_fate f k then b ∷ y else y)
      + (if same_fate f g then length (if same_fate in-hand k then b ∷ z else z) else 0)
  gain f g (done k) h b x y z e = gain_other (same_fate f (done k)) _ b x y e
  gain f g in-hand h b x y z e = gain_hand (same_fate f g) (same_fate f in-hand) h b x y z e

  -- what was in hand is counted with the fate that it is settled to
  pub settled_count : (f g : Fate) → same_fate f in-hand ≡ false → (ms : List (Mark A))
      → count_of f (settled g ms) ≡ count_of f ms + (if same_fate f g then count_of in-hand ms else 0)
  settled_count f g h [] = none (same_fate f g)
    where
      none : (t : Bool) → 0 ≡ 0 + (if t then 0 else 0)
      none true = refl
      none false = refl
  settled_count f g h (m ∷ ms) =
      gain f g m.fate h m.byte (bytes_of f (settled g ms)) (bytes_of f ms) (bytes_of in-hand ms)
      (settled_count f g h ms)
