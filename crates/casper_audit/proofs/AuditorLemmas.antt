use Rattle.std.proofs.Common.{◌≡◌, ◌≤◌, ◌+◌, ℕ, arith, Bool, true, cond, List, [], ◌∷◌, ◌++◌, length-append, Option, Some, None, ap, sym, subst, ◌∙◌, refl}
use Rattle.std.specs.Prelude.{MatchOption}
use Rattle.std.specs.Option.{option_map_or}
use Rattle.casper_trail.specs.declared.item.Item.{Item}
use Rattle.casper_trail.specs.declared.item.Item.TheVariants as item
use Rattle.casper_trail.specs.declared.entry.Entry.{Entry}
use Rattle.casper_trail.specs.TrailView.{entry_count}
use Rattle.casper_trail.specs.Legal.{IsLegalNext}
use Rattle.casper_trail.specs.Marks.{IsExactNext}
use Rattle.casper_trail.proofs.CallLists.{count_of_more_entries, count_after_mark}
use Rattle.casper_trail.proofs.InTurn.{each_of_more}
use Rattle.casper_trail.proofs.Values.{fold_append}
use Rattle.casper_audit.specs.declared.auditor.Auditor.{Auditor}
use Rattle.casper_audit.specs.declared.ledger.Ledger.{Ledger}
use Rattle.casper_audit.specs.declared.parse.BaseWord.{BaseWord}
use Rattle.casper_audit.specs.declared.parse.Parsed.TheVariants as parsed
use Rattle.casper_audit.specs.declared.verdict.AuditRule.{AuditRule}
use Rattle.casper_audit.specs.Text.{TrailText, base_of, last_word, is_before}
use Rattle.casper_audit.specs.Keeps.{IsLedger}
use Rattle.casper_audit.specs.Verdicts.{IsBad, IsGood}
use Rattle.casper_audit.specs.Auditor.{HasTaken, StandsAfter}

last_more : (words : List BaseWord) (last : BaseWord) → last_word (words ++ last ∷ []) ≡ Some last
last_more words last = fold_append (λ (found : Option BaseWord) (word : BaseWord). Some word) None words (last ∷ [])

-- a word before the trail was taken
base_taken_by : (words : List BaseWord) (items : List Item) (word : BaseWord) (auditor : Auditor) (ledger : Ledger) → HasTaken (record { words = words; items = items }) auditor
    → auditor.items ≤ 0 → option_map_or (λ last. is_before last word) auditor.last true ≡ true
    → ((list : List BaseWord) → IsLedger (base_of list) [] auditor.ledger → IsLedger (base_of (list ++ word ∷ [])) [] ledger)
    → StandsAfter (parsed.Base word) (record { words = words; items = items }) (record { ledger = ledger; last = Some word; items = auditor.items; entries = auditor.entries })
base_taken_by words [] word auditor ledger stands none above sets = record {
  after = record { words = words ++ word ∷ []; items = [] };
  is = ap (λ (b : Bool). cond b (Some (record { words = words ++ word ∷ []; items = [] })) None) (sym (ap (λ last. option_map_or (λ (one : BaseWord). is_before one word) last true) stands.last) ∙ above);
  stands = record {
    ledger = sets words stands.ledger;
    last = sym (last_more words word);
    items = stands.items;
    entries = stands.entries;
    legal = tt;
    exact = tt;
  };
}
base_taken_by words (first ∷ items) word auditor ledger stands none above sets = absurd (omega (arith, stands.items))

pub base_taken : (text : TrailText) (word : BaseWord) (auditor : Auditor) (ledger : Ledger) → HasTaken text auditor
    → auditor.items ≤ 0 → option_map_or (λ last. is_before last word) auditor.last true ≡ true
    → ((list : List BaseWord) → IsLedger (base_of list) [] auditor.ledger → IsLedger (base_of (list ++ word ∷ [])) [] ledger)
    → StandsAfter (parsed.Base word) text (record { ledger = ledger; last = Some word; items = auditor.items; entries = auditor.entries })
base_taken text word auditor ledger stands none above sets = base_taken_by text.words text.items word auditor ledger stands none above sets

-- an item that is good was taken
pub item_taken : (text : TrailText) (next : Item) (auditor : Auditor) (ledger : Ledger) (count : ℕ) (found : Option AuditRule) → HasTaken text auditor → found ≡ None
    → MatchOption found (IsGood (base_of text.words) text.items next) (λ rule. IsBad rule (base_of text.words) text.items next)
    → (IsExactNext text.items next → IsLedger (base_of text.words) (text.items ++ next ∷ []) ledger)
    → count ≡ entry_count (text.items ++ next ∷ [])
    → StandsAfter (parsed.Item next) text (record { ledger = ledger; last = auditor.last; items = auditor.items + 1; entries = count })
item_taken text next auditor ledger count found stands none judged records counts =
    let good : IsGood (base_of text.words) text.items next =
    subst (λ (rule : Option AuditRule). MatchOption rule (IsGood (base_of text.words) text.items next) (λ r. IsBad r (base_of text.words) text.items next)) none judged in
    record {
      after = record { words = text.words; items = text.items ++ next ∷ [] };
      is = refl;
      stands = record {
        ledger = records good.1;
        last = stands.last;
        items = ap (λ (n : ℕ). n + 1) stands.items ∙ sym (length-append text.items (next ∷ []));
        entries = counts;
        legal = each_of_more (IsLegalNext (base_of text.words)) [] text.items (next ∷ []) stands.legal (good.0, tt);
        exact = each_of_more IsExactNext [] text.items (next ∷ []) stands.exact (good.1, tt);
      };
    }

-- one entry more counts
pub count_entry : (items : List Item) (next : Item) (entry : Entry) (count : ℕ) → next ≡ item.Entry entry → count ≡ entry_count items → count + 1 ≡ entry_count (items ++ next ∷ [])
count_entry items next entry count is counts =
    ap (λ (n : ℕ). n + 1) counts ∙ sym (count_of_more_entries items (entry ∷ [])) ∙ ap (λ (one : Item). entry_count (items ++ one ∷ [])) (sym is)

-- a mark does not count
pub count_other : (items : List Item) (next : Item) (count : ℕ) → ((entry : Entry) → next ≡ item.Entry entry → ⊥) → count ≡ entry_count items → count ≡ entry_count (items ++ next ∷ [])
count_other items (item.Entry entry) count apart counts = absurd (apart entry refl)
count_other items (item.Mark mark) count apart counts = counts ∙ sym (count_after_mark items mark)
