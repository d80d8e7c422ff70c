use Rattle.std.proofs.Common.{◌≡◌, ◌≤◌, ◌+◌, ℕ, List, [], ◌∷◌, ◌++◌, Bool, true, false, length, Contains, refl, sym, ap, ◌∙◌, subst, arith, append_assoc, append-nil}
use Rattle.std.specs.Prelude.{Option, None, Some, unwrap_or}
use Rattle.std.specs.List.{list_any}
use Rattle.std.proofs.lemmas.Bool.{or_from, or_parts}
use Rattle.std.proofs.lemmas.List.{length-append}
use Rattle.casper_words.specs.Crew.{has_member}
use Rattle.casper_words.specs.declared.call.Op.{Op}
use Rattle.casper_words.specs.declared.call.Op.TheVariants as op
use Rattle.casper_words.specs.declared.page.Right.{Right}
use Rattle.casper_words.specs.declared.page.Right.TheVariants as may
use Rattle.casper_trail.specs.declared.entry.Entry.{Entry}
use Rattle.casper_trail.specs.declared.item.Item.{Item}
use Rattle.casper_trail.specs.Association.{association_of}
use Rattle.casper_trail.specs.Calls.{entries_by}
use Rattle.casper_trail.specs.Fate.{decided_first, fate_of}
use Rattle.casper_trail.specs.ImageLaws.{is_write_of}
use Rattle.casper_trail.specs.Legal.{IfRead, AreRightAfter}
use Rattle.casper_trail.specs.Parts.{live_entries}
use Rattle.casper_trail.specs.TrailView.{is_commit}
use Rattle.casper_trail.specs.Value.{value_of, value_after}
use Rattle.casper_trail.proofs.Parts.{fate_of_more}
use Rattle.casper_trail.proofs.Values.{value_of_more}
use Rattle.casper_trail.proofs.LinkLists.{contains_there}
use Rattle.casper_model.specs.Client.{Client, Fallen}
use Rattle.casper_model.specs.Held.{allows}
use Rattle.casper_model.specs.LegalHistory.{right_for}
use Rattle.casper_model.specs.Own.{Own}
use Rattle.casper_model.specs.Rights.{Agrees, AgreesUnlessFallen}
use Rattle.casper_model.specs.Shared.{Shared, client_at, of_client, rights_at, fallen_at}
use Rattle.casper_model.specs.Stabilisation.{Stabilisation, is_gathering}
use Rattle.casper_model.specs.View.{seen_by}
use Rattle.casper_model.proofs.Entries.{contains_entry}
use Rattle.casper_model.proofs.HeldRights.{covers_read, allows_covered}
use Rattle.casper_turns.specs.KeepsClient.{KeepsClient, recorded_value}
use Rattle.casper_turns.specs.Good.{IsGoodWith}
use Rattle.casper_turns.specs.Right.{ReadsAreRight}
use Rattle.casper_turns.specs.CommitsNothing.{StandsStill, CommitsNothing}
use Rattle.casper_turns.proofs.Lists.{contains_here, not_some}
use Rattle.casper_turns.proofs.NotedUp.{not_fallen}

-- what a client may rely on, while nothing happens and while one thing happens after another
pub apart_itself : (who : ℕ) (shared : Shared) → KeepsClient who shared shared
apart_itself who shared = record {
  more = [];
  trail = sym (append-nil shared.trail);
  limit = refl;
  pages = refl;
  calls = refl;
  live = refl;
  cap = refl;
  lost = λ fallen is. is;
  falls = λ fallen up is. absurd (not_some fallen (sym up ∙ is));
  asks = λ up. refl;
  rights = λ up. refl;
  agrees = λ own is. is;
  words = λ base page word holds. refl;
}

-- who is not fallen was not before
pub up_before : (who : ℕ) (shared after : Shared) → KeepsClient who shared after → fallen_at after who ≡ None → fallen_at shared who ≡ None
up_before who shared after apart up = not_fallen (fallen_at shared who) (λ fallen is. not_some fallen (sym up ∙ apart.lost fallen is))

pub apart_again : (who : ℕ) (shared middle after : Shared) → KeepsClient who shared middle → KeepsClient who middle after → KeepsClient who shared after
apart_again who shared middle after first second = record {
  more = first.more ++ second.more;
  trail = second.trail ∙ ap (λ trail. trail ++ second.more) first.trail ∙ append_assoc shared.trail first.more second.more;
  limit = second.limit ∙ first.limit;
  pages = second.pages ∙ first.pages;
  calls = second.calls ∙ first.calls;
  live = second.live ∙ first.live;
  cap = second.cap ∙ first.cap;
  lost = λ fallen is. second.lost fallen (first.lost fallen is);
  falls = λ fallen up is. fell fallen up is (fallen_at middle who) refl;
  asks = λ up. second.asks up ∙ first.asks (up_before who middle after second up);
  rights = λ up. second.rights up ∙ first.rights (up_before who middle after second up);
  agrees = λ own is. second.agrees own (first.agrees own is);
  words = λ base page word holds. later base page word holds (fallen_at middle who) refl ∙ first.words base page word holds;
}
  where
    fell : (fallen : Fallen) → fallen_at shared who ≡ None → fallen_at after who ≡ Some fallen → (between : Option Fallen) → fallen_at middle who ≡ between
        → length shared.trail ≤ fallen.mark
    fell fallen up is None e =
        let grown : length middle.trail ≡ length (shared.trail ++ first.more) = ap length first.trail in
        let sum : length (shared.trail ++ first.more) ≡ length shared.trail + length first.more = length-append shared.trail first.more in
        let far : length middle.trail ≤ fallen.mark = second.falls fallen e is in
        omega arith
    fell fallen up is (Some between) e =
        let same : between ≡ fallen = ap (λ one. unwrap_or one between) (sym (second.lost between e) ∙ is) in
        subst (λ (one : Fallen). length shared.trail ≤ one.mark) same (first.falls between up e)

    later : (base : List (List ℕ)) (page word : ℕ) → allows (rights_at shared who) page may.Read ≡ true → (between : Option Fallen) → fallen_at middle who ≡ between
        → recorded_value base after who page word ≡ recorded_value base middle who page word
    later base page word holds None e = second.words base page word (ap (λ rights. allows rights page may.Read) (first.rights e) ∙ holds)
    later base page word holds (Some between) e =
        ap (λ fallen. value_of base (seen_by after fallen) page word) (second.lost between e)
        ∙ sym (ap (λ fallen. value_of base (seen_by middle fallen) page word) e)

-- nothing is committed, while nothing happens and while one thing happens after another
pub still_itself : (shared : Shared) → CommitsNothing shared shared
still_itself shared = record {
  more = [];
  trail = sym (append-nil shared.trail);
  commits = refl;
  held = λ one inside held.
      record { same = one; there = inside; lead = refl; phase = refl; members = refl; decided = λ who member. refl; written = refl };
  doubts = λ one inside doubtful. (one, inside, refl, doubtful);
}

none_of_both : (test : Item → Bool) (xs ys : List Item) → list_any test xs ≡ false → list_any test ys ≡ false → list_any test (xs ++ ys) ≡ false
none_of_both test [] ys first second = second
none_of_both test (x ∷ xs) ys first second =
    let parts = or_parts (test x) (list_any test xs) first in
    or_from (test x) (list_any test (xs ++ ys)) parts.0 (none_of_both test xs ys parts.1 second)

-- a stabilisation stands still through two changes
pub stands_again : (shared middle after : Shared) (more further : List Item) (one : Stabilisation) → (first : StandsStill shared middle more one)
    → StandsStill middle after further first.same → StandsStill shared after (more ++ further) one
stands_again shared middle after more further one first second = record {
  same = second.same;
  there = second.there;
  lead = second.lead ∙ first.lead;
  phase = second.phase ∙ first.phase;
  members = sym (ap (association_of after.trail) first.lead) ∙ second.members ∙ ap (association_of middle.trail) first.lead ∙ first.members;
  decided = λ who member.
      fate_of_more who more further
      ∙ ap (λ fate. decided_first fate (fate_of who further)) (first.decided who member)
      ∙ second.decided who (ap (has_member who) members_are ∙ member);
  written =
      none_of_both (is_write_of (association_of shared.trail one.lead)) more further first.written
      (sym (ap (λ members. list_any (is_write_of members) further) members_are) ∙ second.written);
}
  where
    members_are : association_of middle.trail first.same.lead ≡ association_of shared.trail one.lead
    members_are = ap (association_of middle.trail) first.lead ∙ first.members

pub still_again : (shared middle after : Shared) → CommitsNothing shared middle → CommitsNothing middle after → CommitsNothing shared after
still_again shared middle after first second = record {
  more = first.more ++ second.more;
  trail = second.trail ∙ ap (λ trail. trail ++ second.more) first.trail ∙ append_assoc shared.trail first.more second.more;
  commits = none_of_both is_commit first.more second.more first.commits second.commits;
  held = λ one inside held.
      let stands = first.held one inside held in
      stands_again shared middle after first.more second.more one stands (second.held stands.same stands.there (ap is_gathering stands.phase ∙ held));
  doubts = λ one inside doubtful.
      let late = second.doubts one inside doubtful in
      let early = first.doubts late.0 late.1 late.3 in
      (early.0, early.1, early.2 ∙ late.2, early.3);
}

-- what a client that is not fallen holds, it is known to hold
pub known_by_agreement : (place : Option Client) (own : Own) → Agrees place own → of_client None (λ client. client.fallen) place ≡ None → (page : ℕ) (right : Right)
    → allows own.held page right ≡ true → allows (of_client [] (λ client. client.rights) place) page right ≡ true
known_by_agreement None own agrees up page right found = sym (ap (λ held. allows held page right) agrees.0) ∙ found
known_by_agreement (Some client) own agrees up page right found = (subst (AgreesUnlessFallen client own) up agrees).1 page right ∙ found

-- while others act, what is good of a shared part with a client's own part stays
pub good_with_while_apart : (shared after : Shared) (own : Own) → IsGoodWith shared own → KeepsClient own.who shared after → IsGoodWith after own
good_with_while_apart shared after own good apart = record {
  client = good.client;
  agrees = apart.agrees own good.agrees;
  room = good.room;
  few = good.few;
  most = good.most;
  calls = λ up. good.calls (up_before own.who shared after apart up);
}

-- calls that are right are so after entries with the same words in their pages
right_by_values : (base : List (List ℕ)) (before other entries : List Entry)
    → ((entry : Entry) → Contains entries entry → (word : ℕ) → value_of base other entry.page word ≡ value_of base before entry.page word)
    → AreRightAfter base before entries → AreRightAfter base other entries
right_by_values base before other [] same right = tt
right_by_values base before other (next ∷ following) same right = (
  read_still next.op right.0,
  right_by_values base (before ++ next ∷ []) (other ++ next ∷ []) following
      (λ entry inside word.
      value_of_more base other (next ∷ []) entry.page word
      ∙ ap (λ value. value_after entry.page word value next) (same entry (contains_there next following entry inside) word)
      ∙ sym (value_of_more base before (next ∷ []) entry.page word))
      right.1,
)
  where
    read_still : (act : Op) → IfRead act (next.value ≡ value_of base before next.page next.word) → IfRead act (next.value ≡ value_of base other next.page next.word)
    read_still op.Read is = is ∙ sym (same next (contains_here next following) next.word)
    read_still op.Write is = tt
    read_still op.Touch is = tt

-- and so do pending reads that are right
pub reads_while_apart : (base : List (List ℕ)) (shared after : Shared) (own : Own) → IsGoodWith shared own → KeepsClient own.who shared after
    → ReadsAreRight base shared own → ReadsAreRight base after own
reads_while_apart base shared after own good apart right up =
    right_by_values base (live_entries shared.trail) (live_entries after.trail) (entries_by own.who own.pending)
    (λ entry inside word.
    let found = contains_entry own.who own.pending entry inside in
    let held : allows own.held found.0.page may.Read ≡ true =
    allows_covered own.held found.0.page (right_for found.0.op) may.Read (covers_read (right_for found.0.op)) (good.calls before found.0 found.1) in
    let holds : allows (rights_at shared own.who) entry.page may.Read ≡ true =
    subst (λ page. allows (rights_at shared own.who) page may.Read ≡ true) (ap (λ (e : Entry). e.page) found.2)
    (known_by_agreement (client_at shared own.who) own good.agrees before found.0.page may.Read held) in
    sym (ap (λ fallen. value_of base (seen_by after fallen) entry.page word) up) ∙ apart.words base entry.page word holds
    ∙ ap (λ fallen. value_of base (seen_by shared fallen) entry.page word) before)
    (right before)
  where
    before : fallen_at shared own.who ≡ None
    before = up_before own.who shared after apart up
