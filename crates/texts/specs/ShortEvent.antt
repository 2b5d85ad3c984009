-- 0x4D short event: EN 300 468, clause 6.2.37.
use Rattle.std.specs.Prelude.{List, [], ◌∷◌, ℕ}
use Rattle.wire.specs.Reading.{value, ◌>>=◌}
use Rattle.forms.specs.Fields.{Field, kept}
use Rattle.clock.specs.Fault.{Answered}
use Rattle.layout.specs.Body.{framed}
use Rattle.layout.specs.Texts.{two_texts}
use Rattle.layout.specs.Widths.{size, number_of}
use Rattle.layout.specs.declared.texts.TwoTexts.{TwoTexts}
use Rattle.texts.specs.declared.short_event.ShortEvent.{ShortEvent}

-- what stands in front of the texts
abbrev pub layout : List Field
layout = kept 24  -- 0 language_code
    ∷ []

-- behind it the length of the name, 8 bits, and the name; then the length of the text, 8 bits, and the text to the end
unfoldable pub fields : List ℕ → Answered ShortEvent
fields b = do
  parts ← two_texts b (size layout)
  value (record { language_code = number_of layout 0 b; event_name = parts.first; text = parts.second })

-- the tag 0x4D, and a body of those fields
unfoldable pub short_event : List ℕ → Answered ShortEvent
short_event s = framed s 0x4D >>= fields

-- its two texts
abbrev pub texts : ShortEvent → TwoTexts
texts f = record { first = f.event_name; second = f.text }
