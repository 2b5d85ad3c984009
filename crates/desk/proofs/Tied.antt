-- What the theorems assume of a call is the `ensures` of the function, to the letter.
use mathlib.Core.Path.{refl}
use seplogic.Ra.Ura.{Ura}
use base.Logic.{SProp}
use prog.Memory.{Memory}
use prog.Routine.{Routine}
use types.Logic.{Logic}
use contract.Monad.{Fun}
use Rattle.wire.specs.Ensures.{Ensures}
use Rattle.write_lists.specs.ServiceList.{service_list_written}
use Rattle.write_lists.specs.Content.{content_written}
use Rattle.write_lists.specs.ParentalRating.{parental_rating_written}
use Rattle.write_lists.specs.LocalTimeOffset.{local_time_offset_written}
use Rattle.desk.specs.Answers.{Called}
use Rattle.desk.specs.Delivery.{cable_given, satellite_given, terrestrial_given}
use Rattle.desk.specs.Texts.{name_given, stuffing_given, service_given, short_event_given}
use Rattle.desk.specs.contracts.text_writers.lohitunga_write_network_name as name
use Rattle.desk.specs.contracts.text_writers.lohitunga_write_stuffing as stuffing
use Rattle.desk.specs.contracts.text_writers.lohitunga_write_service as service
use Rattle.desk.specs.contracts.text_writers.lohitunga_write_short_event as event
use Rattle.desk.specs.contracts.delivery_writers.lohitunga_write_satellite as satellite
use Rattle.desk.specs.contracts.delivery_writers.lohitunga_write_cable as cable
use Rattle.desk.specs.contracts.delivery_writers.lohitunga_write_terrestrial as terrestrial
use Rattle.desk.specs.contracts.list_writers.lohitunga_write_service_list as services
use Rattle.desk.specs.contracts.list_writers.lohitunga_write_content as contents
use Rattle.desk.specs.contracts.list_writers.lohitunga_write_parental_rating as ratings
use Rattle.desk.specs.contracts.list_writers.lohitunga_write_local_time_offset as offsets

module _ {M : Type 1} {𝓤 : Ura M} (𝓛 : Logic 𝓤) (mem : Memory → SProp 𝓤) (run : Routine → Fun 𝓤) where
  pub name-ensures : Ensures 𝓤 name.ended (name.clauses 𝓛 mem run)
      (λ κs a r ws. Called (name_given a.1.0.now a.0) a.1.1.0.now r ws.1.1.0)
  name-ensures κs a g r ws = refl

  pub stuffing-ensures : Ensures 𝓤 stuffing.ended (stuffing.clauses 𝓛 mem run)
      (λ κs a r ws. Called (stuffing_given a.1.0.now a.0) a.1.1.0.now r ws.1.1.0)
  stuffing-ensures κs a g r ws = refl

  pub service-ensures : Ensures 𝓤 service.ended (service.clauses 𝓛 mem run)
      (λ κs a r ws. Called (service_given a.1.0.now a.0) a.1.1.0.now r ws.1.1.0)
  service-ensures κs a g r ws = refl

  pub event-ensures : Ensures 𝓤 event.ended (event.clauses 𝓛 mem run)
      (λ κs a r ws. Called (short_event_given a.1.0.now a.0) a.1.1.0.now r ws.1.1.0)
  event-ensures κs a g r ws = refl

  pub satellite-ensures : Ensures 𝓤 satellite.ended (satellite.clauses 𝓛 mem run)
      (λ κs a r ws. Called (satellite_given a.0) a.1.0.now r ws.1.0)
  satellite-ensures κs a g r ws = refl

  pub cable-ensures : Ensures 𝓤 cable.ended (cable.clauses 𝓛 mem run)
      (λ κs a r ws. Called (cable_given a.0) a.1.0.now r ws.1.0)
  cable-ensures κs a g r ws = refl

  pub terrestrial-ensures : Ensures 𝓤 terrestrial.ended (terrestrial.clauses 𝓛 mem run)
      (λ κs a r ws. Called (terrestrial_given a.0) a.1.0.now r ws.1.0)
  terrestrial-ensures κs a g r ws = refl

  pub services-ensures : Ensures 𝓤 services.ended (services.clauses 𝓛 mem run)
      (λ κs a r ws. Called (service_list_written a.0.now) a.1.0.now r ws.1.0)
  services-ensures κs a g r ws = refl

  pub contents-ensures : Ensures 𝓤 contents.ended (contents.clauses 𝓛 mem run)
      (λ κs a r ws. Called (content_written a.0.now) a.1.0.now r ws.1.0)
  contents-ensures κs a g r ws = refl

  pub ratings-ensures : Ensures 𝓤 ratings.ended (ratings.clauses 𝓛 mem run)
      (λ κs a r ws. Called (parental_rating_written a.0.now) a.1.0.now r ws.1.0)
  ratings-ensures κs a g r ws = refl

  pub offsets-ensures : Ensures 𝓤 offsets.ended (offsets.clauses 𝓛 mem run)
      (λ κs a r ws. Called (local_time_offset_written a.0.now) a.1.0.now r ws.1.0)
  offsets-ensures κs a g r ws = refl
