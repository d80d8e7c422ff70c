use Rattle.std.proofs.Common.{◌≡◌, ℕ, List, [], ◌∷◌, ◌++◌, Bool, true, false, ◌&&◌, cond, refl, sym, ap, ◌∙◌, arith}
use Rattle.std.specs.Prelude.{Option, length}
use Rattle.casper_words.specs.Crew.{IsClient, has_member, crew_of}
use Rattle.casper_trail.specs.declared.item.Item.{Item}
use Rattle.casper_trail.specs.Association.{association_of}
use Rattle.casper_trail.specs.Clients.{AreOfClients}
use Rattle.casper_dir.specs.Rights.{writes_some}
use Rattle.casper_model.specs.declared.reply.StabReply.TheVariants as reply
use Rattle.casper_model.specs.Stabilisation.{Stabilisation, is_empty}
use Rattle.casper_assoc.specs.TrailAssociations.{AreAssociationsOf}
use Rattle.casper_gather.specs.Bookkeeping.{begun_by}
use Rattle.casper_gather.specs.UnendedLaws.{stabilisations_of}
use Rattle.casper_gather.proofs.Shown.{begun_alike}
use Rattle.casper_hub.specs.HubFields.{hub_of}
use Rattle.casper_hub.specs.Stages.{HandsInWith}
use Rattle.casper_hub.specs.Stabilising.{awaited_in, modified_in}
use Rattle.casper_hub.specs.HubView.{ClientView}
use Rattle.casper_model.specs.Frozen.{pages_modified_by}
use Rattle.casper_model.specs.Stabilise.{reply_awaiting}
use Rattle.casper_hub.proofs.stabilise.freeze.Goals as goal
use Rattle.casper_hub.proofs.stabilise.freeze.Goals.{then-count-eq0, else-count-eq0}

none_counted : (xs : List ℕ) → length xs ≡ 0 → is_empty xs ≡ true
none_counted [] none = refl
none_counted (x ∷ xs) none = cc

some_counted : (xs : List ℕ) → (length xs ≡ 0 → ⊥) → is_empty xs ≡ false
some_counted [] some = absurd (some refl)
some_counted (x ∷ xs) some = refl

client : (c : goal.After-begin-2) → IsClient c.args.who
client c = (omega arith, omega arith)

members_are : (c : goal.After-begin-2) (items : List Item) → AreAssociationsOf c.args.associations.now items → c.members-members.result ≡ association_of items c.args.who
members_are c items kept = c.members-members.ensures.members items kept

awaited_are : (c : goal.After-begin-2) (items : List Item) → AreOfClients items → AreAssociationsOf c.args.associations.now items
    → c.writers_among-awaited.result ≡ awaited_in items c.hand_in.new.pages c.args.who
awaited_are c items all kept =
    c.writers_among-awaited.ensures
    ∙ ap (λ (members : List ℕ). crew_of (λ member. has_member member members && writes_some c.hand_in.new.pages.rights member)) (members_are c items kept)

hands_in : (c : goal.After-begin-2) (items : List Item) → AreOfClients items → AreAssociationsOf c.args.associations.now items → (limit : ℕ) (clients : List (Option ClientView))
    → HandsInWith c.args.who (stabilisations_of c.args.unended.now.each ++ begun_by c.args.who (awaited_in items c.hand_in.new.pages c.args.who) ∷ [])
    (hub_of items limit (stabilisations_of c.args.unended.now.each) clients c.args.pages.now) c.args.cache.now
    (hub_of items limit (stabilisations_of c.begin-2.new.self.each) clients c.hand_in.new.pages) c.hand_in.new.cache
hands_in c items all kept limit clients = record {
  hub_is = ap (λ (list : List Stabilisation). hub_of items limit list clients c.hand_in.new.pages)
      (ap stabilisations_of c.begin-2.ensures.each ∙ begun_alike c.begin.result c.args.unended.now.each
      ∙ ap (λ (one : Stabilisation). stabilisations_of c.args.unended.now.each ++ one ∷ []) (c.begin.ensures.begun ∙ ap (begun_by c.args.who) (awaited_are c items all kept)));
  own_is = c.hand_in.ensures.cache;
  gives = c.hand_in.ensures.gives;
  rights = c.hand_in.ensures.rights;
}

-- the reply, by whether somebody is awaited
replies_are : (c : goal.After-begin-2) (items : List Item) → AreOfClients items → AreAssociationsOf c.args.associations.now items
    → c.if-count-eq0.reply ≡ reply_awaiting (awaited_in items c.hand_in.new.pages c.args.who) (modified_in items c.args.who)
replies_are c items all kept =
    elim c.if-count-eq0.branch [
      | then-count-eq0 w ↦
          w.reply-is ∙ ap reply.Sealed (w.count_pages.ensures.pages items all kept c.args.who (client c) (members_are c items kept)
          ∙ ap (λ (members : List ℕ). length (pages_modified_by items members)) (members_are c items kept))
          ∙ sym (as_awaited c items all kept true (none_counted c.writers_among-awaited.result (sym c.count.ensures.count ∙ w.if-count-eq0.true)))
      | else-count-eq0 w ↦
          w.reply-is ∙ ap reply.Gathering (awaited_are c items all kept)
          ∙ sym (as_awaited c items all kept false (some_counted c.writers_among-awaited.result (λ none. w.if-count-eq0.false (c.count.ensures.count ∙ none))))
    ]
  where
    as_awaited : (c : goal.After-begin-2) (items : List Item) → AreOfClients items → AreAssociationsOf c.args.associations.now items → (b : Bool) → is_empty c.writers_among-awaited.result ≡ b
        → reply_awaiting (awaited_in items c.hand_in.new.pages c.args.who) (modified_in items c.args.who)
        ≡ cond b (reply.Sealed (modified_in items c.args.who)) (reply.Gathering (awaited_in items c.hand_in.new.pages c.args.who))
    as_awaited c items all kept b is =
        ap (λ (b : Bool). cond b (reply.Sealed (modified_in items c.args.who)) (reply.Gathering (awaited_in items c.hand_in.new.pages c.args.who)))
        (ap is_empty (sym (awaited_are c items all kept)) ∙ is)

pub returns-clause-freezes : goal.returns-clause-freezes
returns-clause-freezes c items all kept limit clients = record { replies = replies_are c items all kept; hands = hands_in c items all kept limit clients }
