-- What holds of a story, and of the bytes that it has seen, holds after a packet too, if the few things that can happen to a byte keep it.
use Rattle.std.proofs.Common.{◌≡◌, ℕ, Bool, true, false, eqb, List, [], ◌∷◌, ◌++◌, map, take, drop, sym, refl, ap, ◌∙◌, subst, append_assoc, append-nil, take-append-drop}
use mathlib.Core.Option.{Option}
use Rattle.wire.specs.Each.{Each}
use Rattle.wire.proofs.EachLaws.{each_take, each_drop}
use Rattle.packet.specs.Ruling.{joins, Carried}
use Rattle.collector.specs.Rules.{Kind, Fate, pointer, filler, done, in-hand, Story, sameKind, same_fate, hand_of, given, broken_off, finished, Rest, kind_of, Mode, begin, inside, outside, filling, skipping, breaking, Next, Size, going, whole, too_long, size_of, begun, grown, resumed, joined, byte_in, stretch, goesOn, sections_in, payload, story_after}

-- a kind that a byte has by its section's end alone: none of those that the rules give
pub record ByEnd (k : Kind) : Type 0 where
  pub not-pointer : sameKind k pointer ≡ false
  pub not_rest : (m : Rest) → sameKind k (kind_of m) ≡ false

no_pointer : (m : Rest) → sameKind pointer (kind_of m) ≡ false
no_pointer filling = refl
no_pointer skipping = refl
no_pointer breaking = refl

module _ (comes : List ℕ → Kind) {A : Type 0} (value : A → ℕ) where
  -- P of the bytes seen and the story; R is what is known of each byte that comes
  pub record Keeps (R : A → Type 0) (P : List A → Story A → Type 0) : Type 0 where
    pub gives : (f : Fate) → same_fate (done pointer) f ≡ false → ((k : Kind) → ByEnd k → same_fate (done k) f ≡ false)
        → (b : A) (l : List A) (s : Story A) → R b → P l s → P (l ++ (b ∷ [])) (given f b s)
    pub ends : (b : A) (l : List A) (s : Story A) → R b → size_of (map value (hand_of s ++ (b ∷ []))) ≡ whole → P l s
        → P (l ++ (b ∷ [])) (finished (comes (map value (hand_of s ++ (b ∷ [])))) (given in-hand b s))
    pub breaks : (l : List A) (s : Story A) → P l s → P l (broken_off s)

  module _ (R : A → Type 0) (P : List A → Story A → Type 0) (k : Keeps R P) where
    keep-begun : (t : Bool) (b : A) (l : List A) (s : Story A) → R b → P l s → P (l ++ (b ∷ [])) (begun t b s).story
    keep-begun true b l s r x = k.gives (done filler) refl (λ j w. w.not_rest filling) b l s r x
    keep-begun false b l s r x = k.gives in-hand refl (λ j w. refl) b l s r x

    keep-grown : (after : Mode) (z : Size) (b : A) (l : List A) (s : Story A) → R b
        → size_of (map value (hand_of s ++ (b ∷ []))) ≡ z → P l s
        → P (l ++ (b ∷ [])) (grown after (comes (map value (hand_of s ++ (b ∷ [])))) z (given in-hand b s)).story
    keep-grown after going b l s r e x = k.gives in-hand refl (λ j w. refl) b l s r x
    keep-grown after whole b l s r e x = k.ends b l s r e x
    keep-grown after too_long b l s r e x = k.breaks (l ++ (b ∷ [])) (given in-hand b s) (k.gives in-hand refl (λ j w. refl) b l s r x)

    keep-byte : (after m : Mode) (b : A) (l : List A) (s : Story A) → R b → P l s
        → P (l ++ (b ∷ [])) (byte_in comes value after m b s).story
    keep-byte after begin b l s r x = keep-begun (eqb (value b) 255) b l s r x
    keep-byte after inside b l s r x = keep-grown after (size_of (map value (hand_of s ++ (b ∷ [])))) b l s r refl x
    keep-byte after (outside m) b l s r x = k.gives (done (kind_of m)) (no_pointer m) (λ j w. w.not_rest m) b l s r x

    keep-stretch : (after : Mode) (l : List A) (n : Next A) (bs : List A) → Each R bs → P l n.story
        → P (l ++ bs) (stretch comes value after n bs).story
    keep-stretch after l n [] r x = subst (λ (z : List A). P z n.story) (sym (append-nil l)) x
    keep-stretch after l n (b ∷ bs) r x =
        let n' : Next A = byte_in comes value after n.mode b n.story in
        subst (λ (z : List A). P z (stretch comes value after n' bs).story) (append_assoc l (b ∷ []) bs)
        (keep-stretch after (l ++ (b ∷ [])) n' bs r.1 (keep-byte after n.mode b l n.story r.0 x))

    pub keep-goes : (l : List A) (s : Story A) (bs : List A) → Each R bs → P l s → P (l ++ bs) (goesOn comes value s bs)
    keep-goes l s bs r x = keep-stretch (outside filling) l (record { mode = resumed (hand_of s); story = s }) bs r x

    pub keep-sections : (l : List A) (s : Story A) (bs : List A) → Each R bs → P l s → P (l ++ bs) (sections_in comes value s bs)
    keep-sections l s bs r x = keep-stretch begin l (record { mode = begin; story = s }) bs r x

    -- and if the pointer byte keeps it, a whole packet does
    module _ (points : (b : A) (l : List A) (s : Story A) → R b → P l s → P (l ++ (b ∷ [])) (given (done pointer) b s)) where
      pub keep-payload : (t : Bool) (l : List A) (s : Story A) (bs : List A) → Each R bs → P l s → P (l ++ bs)
          (payload comes value t s bs)
      keep-payload false l s bs r x = keep-goes l s bs r x
      keep-payload true l s [] r x = subst (λ (z : List A). P z s) (sym (append-nil l)) x
      keep-payload true l s (p ∷ bs) r x =
          let a : List A = take (value p) bs in
          let c : List A = drop (value p) bs in
          let l₁ : List A = l ++ (p ∷ []) in
          let y = keep-goes l₁ (given (done pointer) p s) a (each_take R (value p) bs r.1) (points p l s r.0 x) in
          let z = keep-sections (l₁ ++ a) (broken_off (goesOn comes value (given (done pointer) p s) a)) c
          (each_drop R (value p) bs r.1)
          (k.breaks (l₁ ++ a) (goesOn comes value (given (done pointer) p s) a) y) in
          subst (λ (q : List A). P q (payload comes value true s (p ∷ bs)))
          (append_assoc l₁ a c
          ∙ ap (λ (q : List A). l₁ ++ q) (take-append-drop (value p) bs)
          ∙ append_assoc l (p ∷ []) bs)
          z

      keep-joined : (t : Bool) (l : List A) (s : Story A) → P l s → P l (joined t s)
      keep-joined true l s x = x
      keep-joined false l s x = k.breaks l s x

      pub keep_taken : (last : Option ℕ) (l : List A) (s : Story A) (q : Carried A) → Each R q.bytes → P l s
          → P (l ++ q.bytes) (story_after comes value last s q)
      keep_taken last l s q r x =
          keep-payload q.start l (joined (joins last q.spliced q.counter) s) q.bytes r
          (keep-joined (joins last q.spliced q.counter) l s x)
