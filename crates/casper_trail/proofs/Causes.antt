use Rattle.std.proofs.Common.{◌≡◌, ℕ, List, [], ◌∷◌, ◌++◌, Bool, true, false, cond, ◌&&◌, ◌||◌, ◌==◌, refl, ap, sym, ◌∙◌, subst, ⊎_elim, append_assoc}
use Rattle.std.proofs.lemmas.Bool.{cond_both, or_cases, and_parts, eqb-true, cases_Bool, true≢false}
use Rattle.casper_words.specs.Crew.{IsClient, has_member}
use Rattle.casper_trail.specs.declared.entry.Entry.{Entry}
use Rattle.casper_trail.specs.declared.mark.Mark.{Mark}
use Rattle.casper_trail.specs.declared.mark.Mark.TheVariants.{Commit, Rollback}
use Rattle.casper_trail.specs.declared.item.Item.{Item}
use Rattle.casper_trail.specs.declared.item.Item.TheVariants as item
use Rattle.casper_trail.specs.Value.{writes_page}
use Rattle.casper_trail.specs.Fate.{Fate, Stable, Dropped, Open, fate_of, fate_by, members_of, decided_first, is_live, is_open, is_stable}
use Rattle.casper_trail.specs.Parts.{entries_where, live_entries}
use Rattle.casper_trail.specs.Clients.{AreOfClients}
use Rattle.casper_trail.specs.EachInTurn.{EachAfter}
use Rattle.casper_trail.specs.Cause.{is_direct_cause, IsCauseOfNone, IsClosedPart, empty, kept, left_out}
use Rattle.casper_trail.specs.Association.{AreLinked, association_of}
use Rattle.casper_trail.specs.Marks.{HasExactMarks, IsExactMark, IsExactNext}
use Rattle.casper_trail.specs.CauseLaws.{CauseSharesFate, StableIsClosed, AssociationIsClosed}
use Rattle.casper_trail.proofs.Parts.{fate_of_more}
use Rattle.casper_trail.proofs.InTurn.{each_of_rest}
use Rattle.casper_trail.proofs.Links.{open_link, linked_together}

-- what is open after two pieces is open after each
pub both_open : (first later : Fate) → decided_first first later ≡ Open → (first ≡ Open) × (later ≡ Open)
both_open Stable later is = absurd (true≢false (ap is_stable is))
both_open Dropped later is = absurd (true≢false (sym (ap is_live is)))
both_open Open later is = (refl, is)

open_after : (who : ℕ) (items more : List Item) → fate_of who items ≡ Open → fate_of who more ≡ Open → fate_of who (items ++ more) ≡ Open
open_after who items more is is' = fate_of_more who items more ∙ ap (λ fate. decided_first fate (fate_of who more)) is ∙ is'

-- linked clients are members of an exact mark together
together : (items : List Item) (mark : Mark) (one other : ℕ) → IsExactMark items mark → IsClient one → IsClient other → AreLinked items one other
    → has_member one (members_of mark) ≡ has_member other (members_of mark)
together items (Commit lead members) one other exact is_one is_other linked =
    ap (has_member one) exact ∙ linked_together items lead one other is_one is_other linked ∙ sym (ap (has_member other) exact)
together items (Rollback lost members) one other exact is_one is_other linked =
    ap (has_member one) exact ∙ linked_together items lost one other is_one is_other linked ∙ sym (ap (has_member other) exact)

-- items round a write and a later entry, with those after the entry
round : List Item → Entry → List Item → Entry → List Item → List Item
round before write middle entry after = before ++ item.Entry write ∷ (middle ++ item.Entry entry ∷ after)

round_more : (before : List Item) (write : Entry) (middle : List Item) (entry : Entry) (after more : List Item)
    → round before write middle entry after ++ more ≡ round before write middle entry (after ++ more)
unfolding round
round_more before write middle entry after more =
    append_assoc before (item.Entry write ∷ (middle ++ item.Entry entry ∷ after)) more
    ∙ ap (λ rest. before ++ item.Entry write ∷ rest) (append_assoc middle (item.Entry entry ∷ after) more)

-- while a write and a later entry on its page are open, each mark holds both clients or neither
same_fate : (before : List Item) (write : Entry) (middle : List Item) (entry : Entry) → IsClient write.who → IsClient entry.who
    → writes_page entry.page write ≡ true → fate_of write.who middle ≡ Open → (after more : List Item)
    → fate_of write.who after ≡ Open → fate_of entry.who after ≡ Open
    → EachAfter IsExactNext (round before write middle entry after) more → fate_of write.who more ≡ fate_of entry.who more
unfolding round
same_fate before write middle entry is is' writes write_open after [] open_w open_e exact = refl
same_fate before write middle entry is is' writes write_open after (item.Entry next ∷ more) open_w open_e exact =
    same_fate before write middle entry is is' writes write_open (after ++ item.Entry next ∷ []) more
    (open_after write.who after (item.Entry next ∷ []) open_w refl) (open_after entry.who after (item.Entry next ∷ []) open_e refl)
    (subst (λ items. EachAfter IsExactNext items more) (round_more before write middle entry after (item.Entry next ∷ [])) exact.1)
same_fate before write middle entry is is' writes write_open after (item.Mark mark ∷ more) open_w open_e exact =
    let linked : AreLinked (round before write middle entry after) write.who entry.who =
    open_link before middle after write entry writes (open_after write.who middle (item.Entry entry ∷ after) write_open open_w) open_e in
    let same : has_member write.who (members_of mark) ≡ has_member entry.who (members_of mark) =
    together (round before write middle entry after) mark write.who entry.who exact.0 is is' linked in
    ⊎_elim
    (λ (named : has_member entry.who (members_of mark) ≡ true).
    ap (λ b. cond b (fate_by mark) (fate_of write.who more)) (same ∙ named) ∙ sym (ap (λ b. cond b (fate_by mark) (fate_of entry.who more)) named))
    (λ (other : has_member entry.who (members_of mark) ≡ false).
    ap (λ b. cond b (fate_by mark) (fate_of write.who more)) (same ∙ other)
    ∙ same_fate before write middle entry is is' writes write_open (after ++ item.Mark mark ∷ []) more
    (open_after write.who after (item.Mark mark ∷ []) open_w (ap (λ b. cond b (fate_by mark) Open) (same ∙ other)))
    (open_after entry.who after (item.Mark mark ∷ []) open_e (ap (λ b. cond b (fate_by mark) Open) other))
    (subst (λ items. EachAfter IsExactNext items more) (round_more before write middle entry after (item.Mark mark ∷ [])) exact.1)
    ∙ sym (ap (λ b. cond b (fate_by mark) (fate_of entry.who more)) other))
    (cases_Bool (has_member entry.who (members_of mark)))

-- items after others are of clients
pub clients_after : (before after : List Item) → AreOfClients (before ++ after) → AreOfClients after
clients_after [] after clients = clients
clients_after (item.Entry entry ∷ before) after clients = clients_after before after clients.1
clients_after (item.Mark mark ∷ before) after clients = clients_after before after clients

pub cause_shares_fate : CauseSharesFate
unfolding round
cause_shares_fate before middle after cause entry clients exact causes cause_open =
    ⊎_elim
    (λ same. ap (λ who. fate_of who after) (eqb-true cause.who entry.who same))
    (λ writes.
    let behind = clients_after before (item.Entry cause ∷ (middle ++ item.Entry entry ∷ after)) clients in
    let whole : round before cause middle entry [] ++ after ≡ round before cause middle entry after = round_more before cause middle entry [] after in
    same_fate before cause middle entry behind.0 (clients_after middle (item.Entry entry ∷ after) behind.1).0 writes cause_open [] after refl refl
    (each_of_rest IsExactNext [] (round before cause middle entry []) after (subst HasExactMarks (sym whole) exact)))
    (or_cases (cause.who == entry.who) (writes_page entry.page cause) causes)

-- a part by a test is closed where no entry that is left out is a direct cause of a later one that is kept
closed_by : (items : List Item) (test : ℕ → Fate → Bool) → ((who : ℕ) (fate : Fate) → test who fate ≡ true → is_live fate ≡ true)
    → ((before following middle after : List Item) (cause entry : Entry) → items ≡ before ++ item.Entry cause ∷ following
    → following ≡ middle ++ item.Entry entry ∷ after → test cause.who (fate_of cause.who following) ≡ false
    → is_live (fate_of cause.who following) ≡ true → test entry.who (fate_of entry.who after) ≡ true → is_direct_cause cause entry ≡ false)
    → (before following : List Item) → items ≡ before ++ following → IsClosedPart (entries_where test following) (live_entries following)
closed_by items test live apart before [] split = empty
closed_by items test live apart before (item.Mark mark ∷ following) split =
    closed_by items test live apart (before ++ item.Mark mark ∷ []) following (split ∙ sym (append_assoc before (item.Mark mark ∷ []) following))
closed_by items test live apart before (item.Entry cause ∷ following) split =
    step (test cause.who (fate_of cause.who following)) (is_live (fate_of cause.who following)) refl refl
    (closed_by items test live apart (before ++ item.Entry cause ∷ []) following (split ∙ sym (append_assoc before (item.Entry cause ∷ []) following)))
  where
    none_of : test cause.who (fate_of cause.who following) ≡ false → is_live (fate_of cause.who following) ≡ true
        → (middle after : List Item) → following ≡ middle ++ after → IsCauseOfNone cause (entries_where test after)
    none_of out alive middle [] inside = tt
    none_of out alive middle (item.Mark mark ∷ after) inside =
        none_of out alive (middle ++ item.Mark mark ∷ []) after (inside ∙ sym (append_assoc middle (item.Mark mark ∷ []) after))
    none_of out alive middle (item.Entry entry ∷ after) inside =
        let rest = none_of out alive (middle ++ item.Entry entry ∷ []) after (inside ∙ sym (append_assoc middle (item.Entry entry ∷ []) after)) in
        cond_both (test entry.who (fate_of entry.who after)) (entry ∷ entries_where test after) (entries_where test after) (λ part. IsCauseOfNone cause part)
        (λ chosen. (apart before following middle after cause entry split inside out alive chosen, rest))
        (λ _. rest)

    step : (chosen alive : Bool) → test cause.who (fate_of cause.who following) ≡ chosen → is_live (fate_of cause.who following) ≡ alive
        → IsClosedPart (entries_where test following) (live_entries following)
        → IsClosedPart (cond chosen (cause ∷ entries_where test following) (entries_where test following)) (cond alive (cause ∷ live_entries following) (live_entries following))
    step true true is is' rest = kept rest
    step true false is is' rest = absurd (true≢false (sym (live cause.who (fate_of cause.who following) is) ∙ is'))
    step false true is is' rest = left_out (none_of is is' [] following refl) rest
    step false false is is' rest = rest

stable_lives : (fate : Fate) → is_stable fate ≡ true → is_live fate ≡ true
stable_lives Stable is = refl
stable_lives Dropped is = absurd (true≢false (sym is))
stable_lives Open is = refl

open_lives : (fate : Fate) → is_open fate ≡ true → is_live fate ≡ true
open_lives Stable is = refl
open_lives Dropped is = absurd (true≢false (sym is))
open_lives Open is = refl

is_open_fate : (fate : Fate) → is_open fate ≡ true → fate ≡ Open
is_open_fate Stable is = absurd (true≢false (sym is))
is_open_fate Dropped is = absurd (true≢false (sym is))
is_open_fate Open is = refl

-- what lives and is not stable is open
open_if_unstable : (fate : Fate) → is_stable fate ≡ false → is_live fate ≡ true → fate ≡ Open
open_if_unstable Stable is alive = absurd (true≢false is)
open_if_unstable Dropped is alive = absurd (true≢false (sym alive))
open_if_unstable Open is alive = refl

-- an open entry is a direct cause of no later stable one
apart_from_stable : (items : List Item) → AreOfClients items → HasExactMarks items
    → (before following middle after : List Item) (cause entry : Entry) → items ≡ before ++ item.Entry cause ∷ following
    → following ≡ middle ++ item.Entry entry ∷ after → fate_of cause.who following ≡ Open
    → is_stable (fate_of entry.who after) ≡ true → is_direct_cause cause entry ≡ false
apart_from_stable items clients exact before following middle after cause entry split inside cause_open stable =
    let whole : items ≡ before ++ item.Entry cause ∷ (middle ++ item.Entry entry ∷ after) = split ∙ ap (λ rest. before ++ item.Entry cause ∷ rest) inside in
    let fates = both_open (fate_of cause.who middle) (fate_of cause.who after)
    (sym (fate_of_more cause.who middle (item.Entry entry ∷ after)) ∙ sym (ap (fate_of cause.who) inside) ∙ cause_open) in
    ⊎_elim
    (λ causes. absurd (true≢false
    (sym stable ∙ ap is_stable (sym (cause_shares_fate before middle after cause entry (subst AreOfClients whole clients) (subst HasExactMarks whole exact) causes fates.0) ∙ fates.1))))
    (λ apart. apart)
    (cases_Bool (is_direct_cause cause entry))

pub stable_is_closed : StableIsClosed
stable_is_closed items clients exact =
    closed_by items (λ who fate. is_stable fate) (λ who fate is. stable_lives fate is)
    (λ before following middle after cause entry split inside out alive chosen.
    apart_from_stable items clients exact before following middle after cause entry split inside (open_if_unstable (fate_of cause.who following) out alive) chosen)
    [] items refl

in_part : (members : List ℕ) (who : ℕ) (fate : Fate) → (is_stable fate || (is_open fate && has_member who members)) ≡ true → is_live fate ≡ true
in_part members who fate is =
    ⊎_elim (λ stable. stable_lives fate stable) (λ member. open_lives fate (and_parts (is_open fate) (has_member who members) member).0)
    (or_cases (is_stable fate) (is_open fate && has_member who members) is)

out_of_part : (members : List ℕ) (who : ℕ) (fate : Fate) → (is_stable fate || (is_open fate && has_member who members)) ≡ false → is_live fate ≡ true
    → (fate ≡ Open) × (has_member who members ≡ false)
out_of_part members who Stable out alive = absurd (true≢false out)
out_of_part members who Dropped out alive = absurd (true≢false (sym alive))
out_of_part members who Open out alive = (refl, out)

pub association_is_closed : AssociationIsClosed
association_is_closed items client clients exact =
    closed_by items (λ who fate. is_stable fate || (is_open fate && has_member who (association_of items client))) (in_part (association_of items client))
    (λ before following middle after cause entry split inside out alive chosen.
    let left = out_of_part (association_of items client) cause.who (fate_of cause.who following) out alive in
    ⊎_elim
    (λ stable. apart_from_stable items clients exact before following middle after cause entry split inside left.0 stable)
    (λ both.
    let parts = and_parts (is_open (fate_of entry.who after)) (has_member entry.who (association_of items client)) both in
    let whole : items ≡ before ++ item.Entry cause ∷ (middle ++ item.Entry entry ∷ after) = split ∙ ap (λ rest. before ++ item.Entry cause ∷ rest) inside in
    let behind = clients_after before (item.Entry cause ∷ (middle ++ item.Entry entry ∷ after)) (subst AreOfClients whole clients) in
    let differ : has_member cause.who (association_of items client) ≡ has_member entry.who (association_of items client) → is_direct_cause cause entry ≡ false =
    λ same. absurd (true≢false (sym (same ∙ parts.1) ∙ left.1)) in
    ⊎_elim
    (λ causes. ⊎_elim
    (λ same. differ (ap (λ who. has_member who (association_of items client)) (eqb-true cause.who entry.who same)))
    (λ writes. differ (linked_together items client cause.who entry.who behind.0 (clients_after middle (item.Entry entry ∷ after) behind.1).0
    (subst (λ list. AreLinked list cause.who entry.who) (sym whole)
    (open_link before middle after cause entry writes (sym (ap (fate_of cause.who) inside) ∙ left.0) (is_open_fate (fate_of entry.who after) parts.0)))))
    (or_cases (cause.who == entry.who) (writes_page entry.page cause) causes))
    (λ apart. apart)
    (cases_Bool (is_direct_cause cause entry)))
    (or_cases (is_stable (fate_of entry.who after)) (is_open (fate_of entry.who after) && has_member entry.who (association_of items client)) chosen))
    [] items refl
