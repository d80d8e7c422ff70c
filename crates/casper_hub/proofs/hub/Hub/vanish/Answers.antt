use Rattle.std.proofs.Common.{◌≡◌, ◌∙◌, ℕ, length, sym, ap, subst}
use Rattle.std.specs.Prelude.{None, Some}
use Rattle.casper_words.specs.Crew.{IsClient}
use Rattle.casper_cache.specs.Own as cache
use Rattle.casper_gather.specs.UnendedLaws.{stabilisations_of}
use Rattle.casper_model.specs.declared.reply.Loss.TheVariants as loss
use Rattle.casper_model.specs.Leave.{vanish}
use Rattle.casper_model.specs.Loss.{loss_of}
use Rattle.casper_hub.specs.HubView.{fallen_in}
use Rattle.casper_hub.specs.Losing.{BecomesAbsent, MayWriteNothing}
use Rattle.casper_hub.specs.Places.{shown_fall}
use Rattle.casper_hub.specs.Sound.{IsSound}
use Rattle.casper_hub.specs.Turns.{IsTurn, IsChange}
use Rattle.casper_hub.proofs.Absent.{frames_absent}
use Rattle.casper_hub.proofs.KeptUp.{up_seen, fell_seen}
use Rattle.casper_hub.proofs.LostKept.{vanished_others, vanished_still}
use Rattle.casper_hub.proofs.LostTurns.{emptied, fallen_vanishes, lost_vanishes, bare_fallen, bare_writes_nothing}
use Rattle.casper_hub.proofs.Whole.{client_owned}
use Rattle.casper_hub.proofs.hub.Hub.vanish.Goals as goal

-- Where the client had fallen.

sound_fallen : (c : goal.After-empty) → IsSound c.args.self.now
sound_fallen c = subst IsSound c.self.view_is c.self.invariant.0

client_fallen : (c : goal.After-empty) → IsClient c.args.cache.now.client
client_fallen c = client_owned c.args.self.now c.args.cache.now (sound_fallen c) c.requires.owns

fell : (c : goal.After-empty) → fallen_in c.args.self.now c.args.cache.now.client ≡ Some (shown_fall c.in-Some.fall)
fell c =
    ap (fallen_in c.args.self.now) c.requires.client
    ∙ fell_seen c.args.who c.self.inside.limit (stabilisations_of c.self.inside.unended.each) c.self.inside.trail.items c.self.inside.clients c.self.inside.pages
    c.args.self.now c.fall.result c.in-Some.fall c.self.view_is c.fall.ensures c.in-Some.is

gone_fallen : (c : goal.After-empty) → BecomesAbsent c.args.cache.now.client c.args.self.now c.make_absent.new.self
gone_fallen c = subst (λ (n : ℕ). BecomesAbsent n c.args.self.now c.make_absent.new.self) (sym c.requires.client) c.make_absent.ensures.absent

turn_fallen : (c : goal.After-empty)
    → IsTurn vanish (loss.Lost c.in-Some.fall.mark (length c.args.cache.now.pending)) c.args.self.now c.args.cache.now c.make_absent.new.self (emptied c.args.cache.now)
turn_fallen c =
    fallen_vanishes c.args.self.now c.make_absent.new.self c.args.cache.now (shown_fall c.in-Some.fall) (sound_fallen c) (client_fallen c) (fell c) (gone_fallen c)

pub returns-in-Some-clause-turn : goal.returns-in-Some-clause-turn
returns-in-Some-clause-turn c =
    subst (λ (n : ℕ). IsTurn vanish (loss.Lost c.in-Some.fall.mark n) c.args.self.now c.args.cache.now c.make_absent.new.self c.empty.new.cache)
    (ap length (sym (c.as_slice.ensures ∙ c.pending.ensures)))
    (subst (λ (o : cache.Own). IsTurn vanish (loss.Lost c.in-Some.fall.mark (length c.args.cache.now.pending)) c.args.self.now c.args.cache.now c.make_absent.new.self o)
    (sym c.empty.ensures) (turn_fallen c))

pub returns-in-Some-clause-frames : goal.returns-in-Some-clause-frames
returns-in-Some-clause-frames c base =
    frames_absent c.args.cache.now.client c.args.self.now c.make_absent.new.self (gone_fallen c) (client_fallen c) (sound_fallen c).formed base
    (bare_writes_nothing c.args.cache.now.client c.args.self.now
    (bare_fallen c.args.cache.now.client c.args.self.now (shown_fall c.in-Some.fall) (sound_fallen c) (fell c)))

pub returns-in-Some-clause-others : goal.returns-in-Some-clause-others
returns-in-Some-clause-others c other differ =
    vanished_others c.args.self.now c.args.cache.now c.make_absent.new.self c.requires.owns (turn_fallen c).shows other (λ same. differ (same ∙ c.requires.client))

pub returns-in-Some-clause-still : goal.returns-in-Some-clause-still
returns-in-Some-clause-still c = vanished_still c.args.self.now c.args.cache.now c.make_absent.new.self c.requires.owns (turn_fallen c).shows

-- Where it had not, and its loss was noted or its association rolled back.

sound_before : (c : goal.After-empty-2) → IsSound c.args.self.now
sound_before c = subst IsSound c.self.view_is c.self.invariant.0

client : (c : goal.After-empty-2) → IsClient c.args.cache.now.client
client c = client_owned c.args.self.now c.args.cache.now (sound_before c) c.requires.owns

up : (c : goal.After-empty-2) → fallen_in c.args.self.now c.args.cache.now.client ≡ None
up c =
    up_seen c.args.who c.args.cache.now.client c.self.inside.limit (stabilisations_of c.self.inside.unended.each) c.self.inside.trail.items c.self.inside.clients c.self.inside.pages
    c.args.self.now c.fall.result c.self.view_is c.requires.client c.fall.ensures c.in_default.not-Some

gone : (c : goal.After-empty-2) → BecomesAbsent c.args.cache.now.client c.lose_now-loss.new.self c.make_absent-2.new.self
gone c = subst (λ (n : ℕ). BecomesAbsent n c.lose_now-loss.new.self c.make_absent-2.new.self) (sym c.requires.client) c.make_absent-2.ensures.absent

change : (c : goal.After-empty-2)
    → IsChange (λ shared. loss_of shared c.args.cache.now.client (length c.args.cache.now.pending)) c.lose_now-loss.result c.args.self.now c.lose_now-loss.new.self
change c =
    subst (λ (n : ℕ). IsChange (λ shared. loss_of shared n (length c.args.cache.now.pending)) c.lose_now-loss.result c.args.self.now c.lose_now-loss.new.self) (sym c.requires.client)
    (subst (λ (n : ℕ). IsChange (λ shared. loss_of shared c.args.who n) c.lose_now-loss.result c.args.self.now c.lose_now-loss.new.self)
    (ap length (c.as_slice.ensures ∙ c.pending.ensures)) c.lose_now-loss.ensures.turn)

turn : (c : goal.After-empty-2) → IsTurn vanish c.lose_now-loss.result c.args.self.now c.args.cache.now c.make_absent-2.new.self (emptied c.args.cache.now)
turn c =
    lost_vanishes c.args.self.now c.lose_now-loss.new.self c.make_absent-2.new.self c.args.cache.now c.lose_now-loss.result c.lose_now-loss.ensures.sound (client c) (up c) (change c)
    (gone c)

pub returns-clause-turn : goal.returns-clause-turn
returns-clause-turn c =
    subst (λ (o : cache.Own). IsTurn vanish c.lose_now-loss.result c.args.self.now c.args.cache.now c.make_absent-2.new.self o) (sym c.empty-2.ensures) (turn c)

pub returns-clause-frames : goal.returns-clause-frames
returns-clause-frames c base frames =
    frames_absent c.args.cache.now.client c.lose_now-loss.new.self c.make_absent-2.new.self (gone c) (client c) c.lose_now-loss.ensures.sound.formed base
    (subst (MayWriteNothing c.lose_now-loss.new.self) (sym c.requires.client) c.lose_now-loss.ensures.unwritten) (c.lose_now-loss.ensures.frames base frames)

pub returns-clause-others : goal.returns-clause-others
returns-clause-others c other differ =
    vanished_others c.args.self.now c.args.cache.now c.make_absent-2.new.self c.requires.owns (turn c).shows other (λ same. differ (same ∙ c.requires.client))

pub returns-clause-still : goal.returns-clause-still
returns-clause-still c = vanished_still c.args.self.now c.args.cache.now c.make_absent-2.new.self c.requires.owns (turn c).shows
