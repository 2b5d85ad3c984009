-- What the readings of the descriptors that hold texts say in numbers: 0 and the fields, or the refusal and zeros.
use Rattle.wire.specs.Reading.{value, refused}
use Rattle.clock.specs.Fault.{Answered, number_of}
use Rattle.layout.specs.declared.Part as layout
use Rattle.texts.specs.declared.service.Service as service
use Rattle.texts.specs.declared.short_event.ShortEvent as event
use Rattle.cabinet.specs.declared.text_readings.Part.{Part}
use Rattle.cabinet.specs.declared.text_readings.TextAnswer.{TextAnswer}
use Rattle.cabinet.specs.declared.text_readings.Service.{Service}
use Rattle.cabinet.specs.declared.text_readings.ServiceAnswer.{ServiceAnswer}
use Rattle.cabinet.specs.declared.text_readings.ShortEvent.{ShortEvent}
use Rattle.cabinet.specs.declared.text_readings.ShortEventAnswer.{ShortEventAnswer}

-- where a part of the descriptor starts, and its bytes
abbrev pub part_says : layout.Part → Part
part_says p = record { start = p.start; size = p.length }

-- zeros, where there is no part
abbrev pub no_part : Part
no_part = record { start = 0; size = 0 }

-- 0x40 network name and 0x42 stuffing, or the refusal
abbrev pub text_answer : Answered layout.Part → TextAnswer
text_answer (value p) = record { number = 0; text = part_says p }
text_answer (refused w) = record { number = number_of w; text = no_part }

-- the fields of 0x48 service; zeros, where there is none; the one or the refusal
abbrev pub service_says : service.Service → Service
service_says f = record {
  service_type = f.service_type;
  service_provider_name = part_says f.service_provider_name;
  service_name = part_says f.service_name;
}

abbrev pub no_service : Service
no_service = record { service_type = 0; service_provider_name = no_part; service_name = no_part }

abbrev pub service_answer : Answered service.Service → ServiceAnswer
service_answer (value f) = record { number = 0; service = service_says f }
service_answer (refused w) = record { number = number_of w; service = no_service }

-- the fields of 0x4D short event; zeros, where there is none; the one or the refusal
abbrev pub short_event_says : event.ShortEvent → ShortEvent
short_event_says f = record {
  language_code = f.language_code;
  event_name = part_says f.event_name;
  text = part_says f.text;
}

abbrev pub no_short_event : ShortEvent
no_short_event = record { language_code = 0; event_name = no_part; text = no_part }

abbrev pub short_event_answer : Answered event.ShortEvent → ShortEventAnswer
short_event_answer (value f) = record { number = 0; short_event = short_event_says f }
short_event_answer (refused w) = record { number = number_of w; short_event = no_short_event }
