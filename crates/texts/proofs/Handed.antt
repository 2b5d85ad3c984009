-- The names, texts and stuffing handed out are the caller's bytes, and fill the body.
use mathlib.Core.Path.{◌≡◌, ap, ◌∙◌, sym, subst}
use mathlib.Core.List.{List}
use Prim.Native.Nat.{ℕ}
use lib.ListN.{drop}
use Rattle.wire.specs.Reading.{value}
use Rattle.wire.proofs.ReadingLaws.{value_is, through}
use Rattle.layout.specs.Refusal.{bytes_of}
use Rattle.layout.specs.Body.{framed}
use Rattle.layout.specs.Texts.{two_texts, Filled}
use Rattle.layout.specs.declared.Part.{Part}
use Rattle.layout.specs.declared.texts.TwoTexts.{TwoTexts}
use Rattle.layout.proofs.Exactly.{framed_is, whole_part, texts_are}
use Rattle.texts.specs.Whole.{whole}
use Rattle.texts.specs.NetworkName.{network_name}
use Rattle.texts.specs.Stuffing.{stuffing}
use Rattle.texts.specs.Service as service
use Rattle.texts.specs.ShortEvent as short-event
use Rattle.texts.specs.declared.service.Service.{Service}
use Rattle.texts.specs.declared.short_event.ShortEvent.{ShortEvent}

-- a part that is read as the whole body is the body
whole_is_body : (tag : ℕ) (s : List ℕ) (p : Part) → whole s tag ≡ value p → framed s tag ≡ value (bytes_of s p)
unfolding whole
whole_is_body tag s p e =
    let t = through (framed s tag) _ p e in
    t.1 ∙ ap value (sym (whole_part tag s t.0 t.1) ∙ ap (bytes_of s) (value_is t.2))

pub name_is_body : (s : List ℕ) (p : Part) → network_name s ≡ value p → framed s 0x40 ≡ value (bytes_of s p)
unfolding network_name
name_is_body s p e = whole_is_body 0x40 s p e

pub stuffing_is_body : (s : List ℕ) (p : Part) → stuffing s ≡ value p → framed s 0x42 ≡ value (bytes_of s p)
unfolding stuffing
stuffing_is_body s p e = whole_is_body 0x42 s p e

-- two texts read out of a descriptor's body fill it behind the first h bytes
fill : (h tag : ℕ) (s b : List ℕ) (x : TwoTexts) → framed s tag ≡ value b → two_texts b h ≡ value x → Filled h s x
fill h tag s b x e q = texts_are h s x (ap (λ l. two_texts (drop 2 l) h) (framed_is tag s b e) ∙ q)

-- the type, and then each name after its length
pub names_fill : (s : List ℕ) (f : Service) → service.service s ≡ value f
    → Filled 1 s (record { first = f.service_provider_name; second = f.service_name })
unfolding service.service service.fields
names_fill s f e =
    let t = through (framed s 0x48) _ f e in
    let u = through (two_texts t.0 1) _ f t.2 in
    subst (λ g. Filled 1 s (record { first = g.service_provider_name; second = g.service_name })) (value_is u.2)
    (fill 1 0x48 s t.0 u.0 t.1 u.1)

-- the language, and then the name and the text each after its length
pub texts_fill : (s : List ℕ) (f : ShortEvent) → short-event.short_event s ≡ value f
    → Filled 3 s (record { first = f.event_name; second = f.text })
unfolding short-event.short_event short-event.fields
texts_fill s f e =
    let t = through (framed s 0x4D) _ f e in
    let u = through (two_texts t.0 3) _ f t.2 in
    subst (λ g. Filled 3 s (record { first = g.event_name; second = g.text })) (value_is u.2)
    (fill 3 0x4D s t.0 u.0 t.1 u.1)
