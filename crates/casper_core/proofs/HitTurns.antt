use Rattle.std.proofs.Common.{◌≡◌, ◌<◌, ℕ, ◌++◌, cond, length, sym, ap, ap₂, ◌∙◌}
use Rattle.std.specs.Prelude.{None, Some}
use Rattle.casper_words.specs.declared.call.Op.TheVariants as op
use Rattle.casper_words.specs.declared.page.Right.TheVariants as may
use Rattle.casper_space.specs.declared.answer.Answer.TheVariants as answer
use Rattle.casper_trail.specs.Value.{value_of}
use Rattle.casper_trail.specs.Calls.{entries_by}
use Rattle.casper_cache.specs.Holding.{word_of}
use Rattle.casper_cache.specs.Own as cache
use Rattle.casper_model.specs.Own as machine
use Rattle.casper_model.specs.Hits.{can_hit, with_call, hit_read, hit_write}
use Rattle.casper_model.specs.State.{State, own_at, with_own}
use Rattle.casper_model.specs.View.{view, value_seen}
use Rattle.casper_model.specs.CallStep.{hit_turn, read_hit, write_hit}
use Rattle.casper_hub.specs.HubView.{HubView}
use Rattle.casper_hub.specs.Owned.{own_of}
use Rattle.casper_hub.specs.Shows.{Shows}
use Rattle.casper_hub.proofs.Showing.{seen_shown}
use Rattle.casper_hub.specs.Words.{CacheIsRight, seen_value}
use Rattle.casper_hub.proofs.Hitting.{hits_read_what_is_seen}
use Rattle.casper_hub.proofs.HeldHits.{can_read, cannot_read, can_write, cannot_write, own_behind_read, own_behind_write}

-- A hit of a client's cache is a hit of the machine's state.

-- a state of which a hub and a client's cache are parts, with the right words
pub record Sees (who : ℕ) (state : State) (hub : HubView) (own : cache.Own) : Type 0 where
  pub shared : Shows state.shared hub
  pub place : who < length state.owns
  pub part : own_at state who ≡ own_of own
  pub words : CacheIsRight state.base hub own
  pub client : own.client ≡ who
  pub sound : cache.IsSound own

pub value_is : (who : ℕ) (state : State) (hub : HubView) (own : cache.Own) (page word : ℕ) → Sees who state hub own
    → value_seen state who page word ≡ seen_value state.base hub own page word
value_is who state hub own page word sees =
    ap (λ (one : machine.Own). value_of state.base (view state.shared one) page word) sees.part
    ∙ ap (λ seen. value_of state.base (seen ++ entries_by own.client own.pending) page word)
    (seen_shown state.shared hub sees.shared own.client)

pub read_hits : (who : ℕ) (state : State) (hub : HubView) (own : cache.Own) (page word value : ℕ) (after : cache.Own) → Sees who state hub own → cache.CanRead own page → word < 512
    → value ≡ word_of page word own.held → after ≡ cache.after_read own (record { op = op.Read; page = page; word = word; value = value })
    → read_hit state who page word ≡ Some (record { answer = answer.Value value; state = with_own state (own_of after) })
read_hits who state hub own page word value after sees can below is_value is_after =
    let seen : value_seen state who page word ≡ value =
    value_is who state hub own page word sees ∙ sym (hits_read_what_is_seen state.base hub own page word below sees.words can) ∙ sym is_value in
    ap₂ (λ (one : machine.Own) number. hit_turn state (answer.Value number) (hit_read one page word number)) sees.part seen
    ∙ ap (λ hit. hit_turn state (answer.Value value) (cond hit (Some (with_call (own_of own) op.Read page word value)) None)) (can_read own page sees.sound can)
    ∙ ap (λ one. Some (record { answer = answer.Value value; state = with_own state one })) (sym (own_behind_read own page word value sees.sound) ∙ ap own_of (sym is_after))

pub read_misses : (who : ℕ) (state : State) (hub : HubView) (own : cache.Own) (page word : ℕ) → own_at state who ≡ own_of own → cache.IsSound own → (cache.CanRead own page → ⊥)
    → read_hit state who page word ≡ None
read_misses who state hub own page word part sound cannot =
    let value = value_seen state who page word in
    ap (λ hit. hit_turn state (answer.Value value) (cond hit (Some (with_call (own_at state who) op.Read page word value)) None))
    (ap (λ (one : machine.Own). can_hit one page may.Read) part ∙ cannot_read own page sound cannot)

-- a read hits with the word of its page, whatever that is
pub read_hits_with : (who : ℕ) (state : State) (hub : HubView) (own : cache.Own) (page word value : ℕ) (after : cache.Own) → own_at state who ≡ own_of own → cache.IsSound own → cache.CanRead own page
    → after ≡ cache.after_read own (record { op = op.Read; page = page; word = word; value = value })
    → hit_turn state (answer.Value value) (hit_read (own_at state who) page word value) ≡ Some (record { answer = answer.Value value; state = with_own state (own_of after) })
read_hits_with who state hub own page word value after part sound can is_after =
    ap (λ (one : machine.Own). hit_turn state (answer.Value value) (hit_read one page word value)) part
    ∙ ap (λ hit. hit_turn state (answer.Value value) (cond hit (Some (with_call (own_of own) op.Read page word value)) None)) (can_read own page sound can)
    ∙ ap (λ one. Some (record { answer = answer.Value value; state = with_own state one })) (sym (own_behind_read own page word value sound) ∙ ap own_of (sym is_after))

pub read_misses_with : (who : ℕ) (state : State) (hub : HubView) (own : cache.Own) (page word value : ℕ) → own_at state who ≡ own_of own → cache.IsSound own → (cache.CanRead own page → ⊥)
    → hit_turn state (answer.Value value) (hit_read (own_at state who) page word value) ≡ None
read_misses_with who state hub own page word value part sound cannot =
    ap (λ hit. hit_turn state (answer.Value value) (cond hit (Some (with_call (own_at state who) op.Read page word value)) None))
    (ap (λ (one : machine.Own). can_hit one page may.Read) part ∙ cannot_read own page sound cannot)

pub write_hits : (who : ℕ) (state : State) (hub : HubView) (own : cache.Own) (page word value : ℕ) (after : cache.Own) → own_at state who ≡ own_of own → cache.IsSound own → cache.CanWrite own page
    → after ≡ cache.after_write own (record { op = op.Write; page = page; word = word; value = value })
    → write_hit state who page word value ≡ Some (record { answer = answer.Ok; state = with_own state (own_of after) })
write_hits who state hub own page word value after part sound can is_after =
    ap (λ (one : machine.Own). hit_turn state answer.Ok (hit_write one page word value)) part
    ∙ ap (λ hit. hit_turn state answer.Ok (cond hit (Some (with_call (own_of own) op.Write page word value)) None)) (can_write own page sound can)
    ∙ ap (λ one. Some (record { answer = answer.Ok; state = with_own state one })) (sym (own_behind_write own page word value sound) ∙ ap own_of (sym is_after))

pub write_misses : (who : ℕ) (state : State) (hub : HubView) (own : cache.Own) (page word value : ℕ) → own_at state who ≡ own_of own → cache.IsSound own → (cache.CanWrite own page → ⊥)
    → write_hit state who page word value ≡ None
write_misses who state hub own page word value part sound cannot =
    ap (λ hit. hit_turn state answer.Ok (cond hit (Some (with_call (own_at state who) op.Write page word value)) None))
    (ap (λ (one : machine.Own). can_hit one page may.Write) part ∙ cannot_write own page sound cannot)
