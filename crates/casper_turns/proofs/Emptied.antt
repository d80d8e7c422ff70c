use Rattle.std.proofs.Common.{◌≡◌, ◌≤◌, ℕ, [], true, length, Contains, sym, ap, ◌∙◌, subst, ⊎_elim, arith, true≢false}
use Rattle.std.specs.Prelude.{None, Some}
use Rattle.std.proofs.lemmas.Bool.{cases_eq}
use Rattle.casper_words.specs.Crew.{IsClient}
use Rattle.casper_words.specs.declared.page.Right.{Right}
use Rattle.casper_words.specs.declared.page.Right.TheVariants as may
use Rattle.casper_trail.specs.Calls.{entries_by}
use Rattle.casper_trail.specs.GrowthLaws.{WritersAreWith}
use Rattle.casper_trail.specs.Legal.{IsLegal, AreRightAfter}
use Rattle.casper_trail.specs.Parts.{live_entries}
use Rattle.casper_model.specs.Client.{Client, Fallen}
use Rattle.casper_model.specs.ExactHistory.{IsExact}
use Rattle.casper_model.specs.FallLaw.{HasFallen}
use Rattle.casper_model.specs.Held.{allows}
use Rattle.casper_model.specs.Own.{Own}
use Rattle.casper_model.specs.Rights.{Agrees}
use Rattle.casper_model.specs.Room.{most_cap}
use Rattle.casper_model.specs.RoomLaw.{IsWithin}
use Rattle.casper_model.specs.Shared.{Shared, client_at, of_client, rights_at, fallen_at}
use Rattle.casper_model.proofs.OpeningRights.{exclusive_with_less}
use Rattle.casper_turns.specs.Good.{IsGoodShared}
use Rattle.casper_turns.specs.Kept.{KeptByTurn, OthersStay}
use Rattle.casper_turns.proofs.Falls.{FallsNoMore}
use Rattle.casper_turns.proofs.FrozenChanges.{StaysFrozen, held_by_agreement}
use Rattle.casper_turns.proofs.Lists.{nothing_in, not_some}
use Rattle.casper_turns.proofs.NotedMembers.{NotesNoMore, members_same}
use Rattle.casper_turns.proofs.NotedUp.{up_still}
use Rattle.casper_turns.proofs.Others.{apart_same}
use Rattle.casper_turns.proofs.Recorded.{not_nobody, caps_kept}
use Rattle.casper_turns.proofs.StillLeft.{still_same}

-- what leaves a client with nothing: the trail and the others stay, and after it the client is not fallen and holds nothing
pub record Empties (shared : Shared) (own : Own) (after : Shared) (own_after : Own) : Type 0 where
  pub trail : after.trail ≡ shared.trail
  pub limit : after.limit ≡ shared.limit
  pub pages : after.pages ≡ shared.pages
  pub who : own_after.who ≡ own.who
  pub capacity : own_after.capacity ≡ own.capacity
  pub held : own_after.held ≡ []
  pub pending : own_after.pending ≡ []
  pub others : OthersStay shared own after
  pub places : length after.clients ≡ 33
  pub agrees : Agrees (client_at after own.who) own_after
  pub up : fallen_at after own.who ≡ None
  pub stays : StaysFrozen shared after
  pub notes : NotesNoMore shared after
  pub within : IsWithin after
  pub most : own_after.cap ≤ most_cap

module _ (shared : Shared) (own : Own) (after : Shared) (own_after : Own) (good : IsGoodShared shared) (is : IsClient own.who)
    (did : Empties shared own after own_after) where
  bare_handed : (page : ℕ) (right : Right) → allows (rights_at after own.who) page right ≡ true → ⊥
  bare_handed page right found =
      true≢false
      (sym (held_by_agreement (client_at after own.who) own_after did.agrees page right found) ∙ ap (λ held. allows held page right) did.held)

  less : (who page : ℕ) (right : Right) → allows (rights_at after who) page right ≡ true → allows (rights_at shared who) page right ≡ true
  less who page right found =
      ⊎_elim (λ same. absurd (bare_handed page right (subst (λ number. allows (rights_at after number) page right ≡ true) same found)))
      (λ apart. sym (ap (λ place. allows (of_client [] (λ client. client.rights) place) page right) (did.others who apart)) ∙ found) (cases_eq who own.who)

  same_client : (number : ℕ) (client : Client) (fallen : Fallen) → client_at after number ≡ Some client → client.fallen ≡ Some fallen → client_at shared number ≡ Some client
  same_client number client fallen live fell =
      ⊎_elim
      (λ same.
      absurd (not_some fallen (sym did.up ∙ ap (fallen_at after) (sym same) ∙ ap (of_client None (λ (one : Client). one.fallen)) live ∙ fell)))
      (λ apart. sym (did.others number apart) ∙ live) (cases_eq number own.who)

  falls : FallsNoMore shared after
  falls who fallen fell =
      ⊎_elim (λ same. absurd (not_some fallen (sym did.up ∙ ap (fallen_at after) (sym same) ∙ fell)))
      (λ apart. sym (ap (of_client None (λ (one : Client). one.fallen)) (did.others who apart)) ∙ fell) (cases_eq who own.who)

  emptied_good : IsGoodShared after
  emptied_good = record {
    places = did.places;
    nobody = did.others 0 (not_nobody own.who is) ∙ good.nobody;
    exclusive = exclusive_with_less shared after less good.exclusive;
    exact = subst IsExact (sym did.trail) good.exact;
    writers = λ who page holds. subst (λ trail. WritersAreWith trail page who) (sym did.trail) (good.writers who page (less who page may.Read holds));
    bare = λ number client fallen live fell. good.bare number client fallen (same_client number client fallen live fell) fell;
    marked = λ number client fallen live fell.
        subst (λ trail. HasFallen trail number fallen) (sym did.trail) (good.marked number client fallen (same_client number client fallen live fell) fell);
    frozen = did.stays.frozen;
    noted = members_same shared after did.trail did.notes good.noted;
    unfallen = up_still shared after did.notes falls good.unfallen;
    within = did.within;
    caps = caps_kept shared own after own_after did.others did.agrees did.most good.caps;
  }

  pub kept_emptied : KeptByTurn shared own after own_after
  kept_emptied = record {
    who = did.who;
    capacity = did.capacity;
    good = emptied_good;
    mine = record {
      client = subst IsClient (sym did.who) is;
      agrees = subst (λ number. Agrees (client_at after number) own_after) (sym did.who) did.agrees;
      room = let none : length own_after.pending ≡ 0 = ap length did.pending in omega arith;
      few = let none : length own_after.pending ≡ 0 = ap length did.pending in omega arith;
      most = did.most;
      calls = λ up call inside. absurd (nothing_in call (subst (λ calls. Contains calls call) did.pending inside));
    };
    others = λ other apart. apart_same other shared after did.trail did.limit did.pages (did.others other apart);
    still = still_same shared after did.trail did.stays.left;
    right = λ base right. record {
      legal = subst (IsLegal base) (sym did.trail) right.legal;
      reads = λ up. subst (λ calls. AreRightAfter base (live_entries after.trail) (entries_by own_after.who calls)) (sym did.pending) tt;
    };
  }
