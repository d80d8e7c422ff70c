use Rattle.std.proofs.Common.{◌-◌, ◌<◌, min, length, [], ◌∷◌, sym, ap, subst, arith, length-append}
use Rattle.casper_words.specs.declared.call.Call.{Call}
use Rattle.casper_words.specs.declared.call.Op.TheVariants as op
use Rattle.casper_cache.specs.Own.{Own, room_of}
use Rattle.casper_cache.proofs.SoundSteps.{sound-after_read}
use Rattle.casper_cache.proofs.cache.Cache.hit_read.Goals as goal

-- the call that is appended
abbrev call : goal.After-append → Call
call c = record { op = op.Read; page = c.args.page; word = c.args.word; value = c.in_ok-value.value }

-- there is room for it
room : (c : goal.After-append) → 0 < min 4096 c.self.inside.cap - length c.self.inside.pending.items
room c =
    let some : 0 < room_of c.args.self.now = omega (arith, c.room.ensures.room, c.if-room-eq0.false) in
    subst (λ (own : Own). 0 < room_of own) (sym c.self.view_is) some

pub invariant_of-self-2 : goal.invariant_of-self-2
invariant_of-self-2 c = (
  rw (c.in_ok-value.ensures.hit, c.append.ensures.call) (sound-after_read _ (call c) c.self.invariant.0 (room c)),
  omega (arith, ap length c.append.ensures.call, length-append c.self.inside.pending.items (call c ∷ []), c.append.ensures.room, c.self.invariant.1),
  rw c.in_ok-value.ensures.hit c.self.invariant.2,
)

pub returns-clause-sound : goal.returns-clause-sound
returns-clause-sound c = (invariant_of-self-2 c).0
