use Rattle.std.proofs.Common.{◌≡◌, List, [], ◌∷◌, sym, subst}
use Rattle.std.specs.Prelude.{None}
use Rattle.casper_trail.specs.Value.{IsArray}
use Rattle.casper_trail.proofs.Values.{array_keeps_shape}
use Rattle.casper_model.specs.Rights.{AllNameClients}
use Rattle.casper_model.specs.Run.{Happening, state_after}
use Rattle.casper_model.specs.Vault.{VaultState}
use Rattle.casper_model.proofs.RunHistory.{base_after}
use Rattle.casper_laws.proofs.RunFacts.{every_run_history}
use Rattle.casper_laws.proofs.StepFrozen.{every_run_orderly}
use Rattle.casper_laws.proofs.StepImage.{every_run_stored}
use Rattle.casper_sessions.specs.Chain.{Limits, opened}
use Rattle.casper_sessions.specs.Found.{Found, MayBeFound, found_in}
use Rattle.casper_sessions.specs.StopLaws.{EachStopIsOfItsMoment, EachWriteOutIsOfItsMoment, EachStopLeavesAClosedPart, EachOpeningFindsAClosedPart, EachChainGoesOn, IsOpenable}
use Rattle.casper_sessions.specs.Moments.{moment_of}
use Rattle.casper_sessions.proofs.ClosedParts.{closed_part}
use Rattle.casper_sessions.proofs.Stops.{IsKnown, found_of_moment, written_of_moment}

-- what is known at every moment of a session
known_after : (limits : Limits) (vault : VaultState) (happenings : List Happening) → IsArray limits.pages vault.image → vault.doubt ≡ None
    → AllNameClients happenings → IsKnown (state_after (opened limits vault) happenings)
known_after limits vault happenings shape none named = record {
  history = every_run_history vault limits.pages limits.entries limits.held happenings named;
  orderly = every_run_orderly vault limits.pages limits.entries limits.held happenings none named;
  stored = every_run_stored vault limits.pages limits.entries limits.held happenings shape none named;
}

pub each_stop : EachStopIsOfItsMoment
each_stop limits vault happenings shape none named = found_of_moment (state_after (opened limits vault) happenings) (known_after limits vault happenings shape none named)

pub each_write_out : EachWriteOutIsOfItsMoment
each_write_out limits vault happenings shape none named =
    written_of_moment (state_after (opened limits vault) happenings) (known_after limits vault happenings shape none named)

pub each_closed_part : EachStopLeavesAClosedPart
each_closed_part limits vault happenings shape none named =
    closed_part (state_after (opened limits vault) happenings) (known_after limits vault happenings shape none named).history

pub each_opening : EachOpeningFindsAClosedPart
each_opening limits vault happenings shape none named found may =
    each_closed_part limits vault happenings shape none named (moment_of (state_after (opened limits vault) happenings)) found.image
    (each_stop limits vault happenings shape none named found may)

-- what an opening finds is an array of as many pages
found_shape : (limits : Limits) (vault : VaultState) (happenings : List Happening) (found : Found) → IsOpenable limits.pages vault
    → AllNameClients happenings → MayBeFound (state_after (opened limits vault) happenings).vault found → IsArray limits.pages found.image
found_shape limits vault happenings found openable named may =
    let of_part = each_opening limits vault happenings openable.shape openable.sure named found may in
    subst (IsArray limits.pages) (sym of_part.is)
    (array_keeps_shape limits.pages (state_after (opened limits vault) happenings).base of_part.part
    (subst (IsArray limits.pages) (sym (base_after (opened limits vault) happenings)) openable.shape))

pub each_chain : EachChainGoesOn
each_chain limits vault [] openable chain = openable
each_chain limits vault (session ∷ more) openable chain =
    each_chain limits session.found more
    (record {
      shape = found_shape limits vault session.happenings (found_in session.found) openable chain.0.named chain.0.found.saved;
      sure = chain.0.found.sure;
    })
    chain.1
