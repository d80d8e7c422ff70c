use Rattle.casper_model.specs.Shared.{Shared, change_client}
use Rattle.casper_model.specs.Own.{Own}

-- the two parts that a turn changes: the shared part, and the own part of the client whose turn it is
pub record Both : Type 0 where
  pub shared : Shared
  pub own : Own

-- what a turn gives: its reply, and the two parts after it
pub record Turned (R : Type 0) : Type 0 where
  pub reply : R
  pub shared : Shared
  pub own : Own

abbrev pub turned : {R : Type 0} → R → Both → Turned R
turned reply both = record { reply = reply; shared = both.shared; own = both.own }

-- what a turn gives that is of no client, or of one whose own part stays
pub record Changed (R : Type 0) : Type 0 where
  pub reply : R
  pub shared : Shared

-- the two parts, with the cap and the rights of the client as its own part has them
abbrev pub agreed : Shared → Own → Both
agreed shared own = record {
  shared = change_client own.who (λ client. record client { cap = own.cap; rights = own.held }) shared;
  own = own;
}
