use Rattle.std.proofs.Common.{List, refl, inl, inr}
use Rattle.std.specs.Prelude.{Option, None, Some}
use Rattle.casper_words.specs.Crew.{clients, crew_of}
use Rattle.casper_trail.specs.Association.{association_of}
use Rattle.casper_space.specs.Changes.{Change}
use Rattle.casper_model.specs.Vault.{VaultState, settled_with, settled_vault}
use Rattle.casper_sessions.specs.Found.{MayBeFound, MayBeFoundWith, found_in}
use Rattle.casper_sessions.specs.ChainRows.{in_doubt, after, MomentsOfAWriteOut, DoubtFoundOld, DoubtFoundNew}

-- What the sessions come to.

-- a vault may be found as it settles
settled_found : (vault : VaultState) → MayBeFound vault (found_in (settled_vault vault))
settled_found vault = by_doubt vault.doubt
  where
    by_doubt : (doubt : Option (List Change)) → MayBeFoundWith vault doubt (found_in (settled_with vault doubt))
    by_doubt None = refl
    by_doubt (Some changes) = inr refl

pub moments_of_a_write_out : MomentsOfAWriteOut
unfolding clients crew_of association_of
moments_of_a_write_out = (refl, refl, refl, refl, refl)

pub doubt_found_old : DoubtFoundOld
unfolding clients crew_of association_of
doubt_found_old = (record { saved = inl refl; sure = refl }, refl)

pub doubt_found_new : DoubtFoundNew
unfolding clients crew_of association_of
doubt_found_new = (record { saved = settled_found (after in_doubt).vault; sure = refl }, refl)
