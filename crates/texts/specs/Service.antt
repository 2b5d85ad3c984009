-- 0x48 service: EN 300 468, clause 6.2.33.
use Rattle.std.specs.Prelude.{List, [], ◌∷◌, ℕ}
use Rattle.wire.specs.Reading.{value, ◌>>=◌}
use Rattle.forms.specs.Fields.{Field, kept}
use Rattle.clock.specs.Fault.{Answered}
use Rattle.layout.specs.Body.{framed}
use Rattle.layout.specs.Texts.{two_texts}
use Rattle.layout.specs.Widths.{size, byte_of}
use Rattle.layout.specs.declared.texts.TwoTexts.{TwoTexts}
use Rattle.texts.specs.declared.service.Service.{Service}

-- what stands in front of the texts
abbrev pub layout : List Field
layout = kept 8  -- 0 service_type
    ∷ []

-- behind it the length of the provider's name, 8 bits, and that name; then the length of the name, 8 bits, and the name to the end
unfoldable pub fields : List ℕ → Answered Service
fields b = do
  texts ← two_texts b (size layout)
  value (record { service_type = byte_of layout 0 b; service_provider_name = texts.first; service_name = texts.second })

-- the tag 0x48, and a body of those fields
unfoldable pub service : List ℕ → Answered Service
service s = framed s 0x48 >>= fields

-- its two texts
abbrev pub names : Service → TwoTexts
names f = record { first = f.service_provider_name; second = f.service_name }
