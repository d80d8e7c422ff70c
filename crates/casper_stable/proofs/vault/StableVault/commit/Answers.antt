use Rattle.std.proofs.Common.{refl, ◌≡◌, ◌∙◌, ℕ, List, length, sym, ap, subst, inr, arith}
use Rattle.std.specs.Prelude.{Some, Option, Ok}
use Rattle.std.specs.List.Sorted.{IsStrictlyIncreasing}
use Rattle.std.proofs.lemmas.Bool.{eqb-false, eqb-true}
use Rattle.casper_disk.specs.Disk.{Took}
use Rattle.casper_disk.specs.declared.vault.CommitFault.TheVariants as fault
use Rattle.casper_disk.specs.Vault.{IsOldOrNewImage, as_changes, lacking, version_after}
use Rattle.casper_space.specs.Changes.{VaultRoom, pages_of, room_after}
use Rattle.casper_root.specs.declared.body.Body.{Body}
use Rattle.casper_map.specs.Room.{room_of}
use Rattle.casper_stable.specs.Kept.{image_of, store_room}
use Rattle.casper_stable.specs.Leaves.{Leaves}
use Rattle.casper_stable.specs.Others.{OthersKeepFrames, OthersKeepWords}
use Rattle.casper_stable.proofs.GateLemmas.{words_stay}
use Rattle.casper_stable.proofs.VaultLemmas.{none_found, took_sure, version_risen, room_risen, pages_same, full_kept}
use Rattle.casper_stable.proofs.FullLemmas.{full_handed, handed_back, not_full}
use Rattle.casper_stable.proofs.vault.StableVault.commit.Goals as goal

pub invariant_of-self : goal.invariant_of-self
invariant_of-self g c = record { stands = ∣ c.carry_out.ensures.kept ∣₁ }

pub plan_for-requires-clause-rising : goal.plan_for-requires-clause-rising
plan_for-requires-clause-rising g c = subst IsStrictlyIncreasing (pages_same c.args.changes.now) c.requires.rising

pub plan_for-requires-clause-some : goal.plan_for-requires-clause-some
plan_for-requires-clause-some g c = eqb-false (length c.args.changes.now) 0 (sym c.is_empty.ensures ∙ c.if-is_empty.false)

pub carry_out-requires-clause-more : goal.carry_out-requires-clause-more
carry_out-requires-clause-more g c =
    let most = c.version-2.ensures.most in
    let is = c.version-2.ensures.version in
    let other = c.if-version-eq-LAST_VERSION.false in
    omega (arith, most, is, other)

pub returns-clause-version : goal.returns-clause-version
returns-clause-version g c =
    let some = eqb-false (length c.args.changes.now) 0 (sym c.is_empty.ensures ∙ c.if-is_empty.false) in
    ap (λ (body : Body). body.seq) c.in_ok-carry_out.ensures.body
    ∙ sym (version_risen c.args.changes.now c.args.self.now.store.body.seq some)

pub returns-clause-room : goal.returns-clause-room
returns-clause-room g c =
    let kept = c.args.self.now.store in
    let some = eqb-false (length c.args.changes.now) 0 (sym c.is_empty.ensures ∙ c.if-is_empty.false) in
    let made : VaultRoom → Option VaultRoom = λ room. Some room in
    ap made (c.in_ok-carry_out.ensures.room
    ∙ ap (λ (pages : List ℕ). room_after pages (room_of kept.held)) (sym c.in_ok-plan.ensures.pages ∙ sym (pages_same c.args.changes.now)))
    ∙ sym (room_risen c.args.changes.now (room_of kept.held) some)

pub returns-then-is_empty-clause-images : goal.returns-then-is_empty-clause-images
returns-then-is_empty-clause-images g c told =
    let kept = c.args.self.now.store in
    took_sure g.D.Disk.size g.D.Disk.tells g.D.Disk.content g.D.Disk.loose g.D.Disk.images_now g.D.Disk.moment g.D.Disk.images_since kept
    (as_changes c.args.changes.now) (version_after (as_changes c.args.changes.now) kept.body.seq)
    (λ blocks is. g.met.D.Disk.images_agree kept.disk blocks told is) (λ blocks is. g.met.D.Disk.only_now kept.disk blocks told is)
    c.args.self.now.stands told (none_found (g.D.Disk.content kept.disk) kept.doubt c.requires.sure)

pub returns-then-version-eq-LAST_VERSION-clause-images : goal.returns-then-version-eq-LAST_VERSION-clause-images
returns-then-version-eq-LAST_VERSION-clause-images g c told =
    let kept = c.args.self.now.store in
    took_sure g.D.Disk.size g.D.Disk.tells g.D.Disk.content g.D.Disk.loose g.D.Disk.images_now g.D.Disk.moment g.D.Disk.images_since kept
    (as_changes c.args.changes.now) (version_after (as_changes c.args.changes.now) kept.body.seq)
    (λ blocks is. g.met.D.Disk.images_agree kept.disk blocks told is) (λ blocks is. g.met.D.Disk.only_now kept.disk blocks told is)
    c.args.self.now.stands told (none_found (g.D.Disk.content kept.disk) kept.doubt c.requires.sure)

pub returns-in_err-plan-clause-images : goal.returns-in_err-plan-clause-images
returns-in_err-plan-clause-images g c told =
    let kept = c.args.self.now.store in
    took_sure g.D.Disk.size g.D.Disk.tells g.D.Disk.content g.D.Disk.loose g.D.Disk.images_now g.D.Disk.moment g.D.Disk.images_since kept
    (as_changes c.args.changes.now) (version_after (as_changes c.args.changes.now) kept.body.seq)
    (λ blocks is. g.met.D.Disk.images_agree kept.disk blocks told is) (λ blocks is. g.met.D.Disk.only_now kept.disk blocks told is)
    c.args.self.now.stands told (none_found (g.D.Disk.content kept.disk) kept.doubt c.requires.sure)

pub returns-in_err-root_block-clause-images : goal.returns-in_err-root_block-clause-images
returns-in_err-root_block-clause-images g c told =
    let kept = c.args.self.now.store in
    took_sure g.D.Disk.size g.D.Disk.tells g.D.Disk.content g.D.Disk.loose g.D.Disk.images_now g.D.Disk.moment g.D.Disk.images_since kept
    (as_changes c.args.changes.now) (version_after (as_changes c.args.changes.now) kept.body.seq)
    (λ blocks is. g.met.D.Disk.images_agree kept.disk blocks told is) (λ blocks is. g.met.D.Disk.only_now kept.disk blocks told is)
    c.args.self.now.stands told (none_found (g.D.Disk.content kept.disk) kept.doubt c.requires.sure)

pub returns-in_err-carry_out-clause-images : goal.returns-in_err-carry_out-clause-images
returns-in_err-carry_out-clause-images g c told =
    let kept = c.args.self.now.store in
    let after = c.carry_out.new.self.disk in
    let some = eqb-false (length c.args.changes.now) 0 (sym c.is_empty.ensures ∙ c.if-is_empty.false) in
    subst (λ (next : ℕ). Took (g.D.Disk.moment kept.disk) (g.D.Disk.moment after) (λ past. Leaves
    (g.D.Disk.images_since kept.disk past)) (λ past. Leaves (g.D.Disk.images_since after past))
    (IsOldOrNewImage (image_of g.D.Disk.content kept) kept.body.seq (as_changes c.args.changes.now) next)) (sym
    (version_risen c.args.changes.now kept.body.seq some))
    (c.carry_out.ensures.images told)

pub returns-clause-images : goal.returns-clause-images
returns-clause-images g c told =
    let kept = c.args.self.now.store in
    let after = c.carry_out.new.self.disk in
    let some = eqb-false (length c.args.changes.now) 0 (sym c.is_empty.ensures ∙ c.if-is_empty.false) in
    subst (λ (next : ℕ). Took (g.D.Disk.moment kept.disk) (g.D.Disk.moment after) (λ past. Leaves
    (g.D.Disk.images_since kept.disk past)) (λ past. Leaves (g.D.Disk.images_since after past))
    (IsOldOrNewImage (image_of g.D.Disk.content kept) kept.body.seq (as_changes c.args.changes.now) next)) (sym
    (version_risen c.args.changes.now kept.body.seq some))
    (c.carry_out.ensures.images told)

pub returns-in_err-plan-clause-full : goal.returns-in_err-plan-clause-full
returns-in_err-plan-clause-full g c =
    let kept = c.args.self.now.store in
    let P : ℕ → ℕ → Type 0 = λ need free. lacking (as_changes c.args.changes.now) (store_room kept) ≡ Some
    (record { need = need; free = free }) in
    full_handed c.in_err-plan.field-0.0 c.from_residual.result P c.from_residual.ensures.1 c.in_err-plan.ensures.full

pub returns-in_err-carry_out-clause-full : goal.returns-in_err-carry_out-clause-full
returns-in_err-carry_out-clause-full g c =
    let kept = c.args.self.now.store in
    let P : ℕ → ℕ → Type 0 = λ need free. lacking (as_changes c.args.changes.now) (store_room kept) ≡ Some
    (record { need = need; free = free }) in
    inr (inr (full_kept c.in_ok-plan.plan c.from_residual-in_err-carry_out.result P
    (not_full c.in_err-carry_out.field-0.0 c.from_residual-in_err-carry_out.result c.from_residual-in_err-carry_out.ensures.1 c.in_err-carry_out.ensures.causes)
    c.in_ok-plan.ensures.full))

pub returns-clause-full : goal.returns-clause-full
returns-clause-full g c =
    let kept = c.args.self.now.store in
    let P : ℕ → ℕ → Type 0 = λ need free. lacking (as_changes c.args.changes.now) (store_room kept) ≡ Some
    (record { need = need; free = free }) in
    inr (inr (full_kept c.in_ok-plan.plan (Ok c.version-3.result) P (λ need free is. cc) c.in_ok-plan.ensures.full))

pub returns-then-is_empty-clause-frames : goal.returns-then-is_empty-clause-frames
returns-then-is_empty-clause-frames g c page others = refl

pub returns-then-is_empty-clause-words : goal.returns-then-is_empty-clause-words
returns-then-is_empty-clause-words g c told page others = refl

pub returns-clause-frames : goal.returns-clause-frames
returns-clause-frames g c =
    subst (λ (pages : List ℕ). OthersKeepFrames pages c.args.self.now.store.held c.carry_out.new.self.held)
    (sym c.in_ok-plan.ensures.pages ∙ sym (pages_same c.args.changes.now))
    c.in_ok-carry_out.ensures.frames

pub returns-clause-words : goal.returns-clause-words
returns-clause-words g c told =
    let kept = c.args.self.now.store in
    subst (λ (after : List (List ℕ)). OthersKeepWords (pages_of (as_changes c.args.changes.now)) (image_of g.D.Disk.content kept) after)
    (sym (c.in_ok-carry_out.ensures.image told))
    (words_stay (as_changes c.args.changes.now) (image_of g.D.Disk.content kept))

pub returns-then-is_empty-clause-gate_call : goal.returns-then-is_empty-clause-gate_call
returns-then-is_empty-clause-gate_call g c some =
    absurd (some (eqb-true (length c.args.changes.now) 0 (sym c.is_empty.ensures ∙ c.if-is_empty.true)))

pub returns-in_err-carry_out-clause-gate_call_in_doubt : goal.returns-in_err-carry_out-clause-gate_call_in_doubt
returns-in_err-carry_out-clause-gate_call_in_doubt g c answer =
    c.in_err-carry_out.ensures.gate_call_in_doubt
    (handed_back c.in_err-carry_out.field-0.0 fault.Doubt c.from_residual-in_err-carry_out.result c.from_residual-in_err-carry_out.ensures.1 answer)
