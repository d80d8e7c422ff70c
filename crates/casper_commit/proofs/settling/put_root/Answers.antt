use Rattle.std.proofs.Common.{◌∙◌, sym, subst, inl, true, false}
use Rattle.casper_root.specs.declared.slot.Slot.{Slot}
use Rattle.casper_commit.specs.GateMoment.{IsUntilGate}
use Rattle.casper_commit.specs.States.{OpensTo, StandsBeside, IsAhead, IsAtGate, IsOldOrNew, none_free, root_at}
use Rattle.casper_commit.specs.Added.{AddsImages}
use Rattle.casper_commit.proofs.ResultLemmas.{from_ok, from_err}
use Rattle.casper_commit.proofs.StateLemmas.{standing_opens}
use Rattle.casper_commit.proofs.AddedLemmas.{adds_then, adds_wider}
use Rattle.casper_commit.proofs.settling.put_root.Goals as goal

pub returns-then-is_err-2-clause-doubt : goal.returns-then-is_err-2-clause-doubt
returns-then-is_err-2-clause-doubt g c told was free base is greater answer =
    let disk = c.args.disk.now in
    let between = c.prepare.new.disk in
    let after = c.put_gate.new.disk in
    let at_gate = from_ok c.prepare.result (sym c.is_err.ensures.value ∙ c.if-is_err.false) (c.prepare.ensures.at_gate told was free base is greater) in
    let root = root_at c.args.standing.now was in
    let placed = subst (λ (at : Slot). IsAtGate (record { slot = at; body = was }) c.args.body.now free base (g.D.Disk.content disk) (g.D.Disk.content between) (g.D.Disk.loose between)) (sym c.prepare.ensures.slot) at_gate in
    subst (λ (at : Slot). IsAtGate (record { slot = at; body = was }) c.args.body.now free base (g.D.Disk.content disk) (g.D.Disk.content after) (g.D.Disk.loose after)) c.prepare.ensures.slot
    (c.put_gate.ensures.at_gate told was c.args.body.now free base (g.D.Disk.content disk) placed)

pub returns-then-is_err-2-clause-images : goal.returns-then-is_err-2-clause-images
returns-then-is_err-2-clause-images g c told was free base is greater =
    let disk = c.args.disk.now in
    let between = c.prepare.new.disk in
    let after = c.put_gate.new.disk in
    let at_gate = from_ok c.prepare.result (sym c.is_err.ensures.value ∙ c.if-is_err.false) (c.prepare.ensures.at_gate told was free base is greater) in
    let root = root_at c.args.standing.now was in
    let placed = subst (λ (at : Slot). IsAtGate (record { slot = at; body = was }) c.args.body.now free base (g.D.Disk.content disk) (g.D.Disk.content between) (g.D.Disk.loose between)) (sym c.prepare.ensures.slot) at_gate in
    adds_then g.D.Disk.moment g.D.Disk.images_since disk between after (IsOldOrNew root c.args.body.now free base (g.D.Disk.content disk))
    (λ earlier later image order since. g.met.D.Disk.earlier_counts after earlier later image told order since)
    (adds_wider g.D.Disk.moment g.D.Disk.images_since disk between (OpensTo root free base) (IsOldOrNew root c.args.body.now free base (g.D.Disk.content disk))
    (λ image opens. inl opens) (c.prepare.ensures.images told was free base is))
    (subst (λ (at : Slot). AddsImages g.D.Disk.moment g.D.Disk.images_since between after (IsOldOrNew (record { slot = at; body = was }) c.args.body.now free base (g.D.Disk.content disk))) c.prepare.ensures.slot
    (c.put_gate.ensures.images told was c.args.body.now free base (g.D.Disk.content disk) placed))

pub returns-clause-new : goal.returns-clause-new
returns-clause-new g c told was free base is greater =
    let disk = c.args.disk.now in
    let between = c.prepare.new.disk in
    let after = c.put_gate.new.disk in
    let at_gate = from_ok c.prepare.result (sym c.is_err.ensures.value ∙ c.if-is_err.false) (c.prepare.ensures.at_gate told was free base is greater) in
    let root = root_at c.args.standing.now was in
    let placed = subst (λ (at : Slot). IsAtGate (record { slot = at; body = was }) c.args.body.now free base (g.D.Disk.content disk) (g.D.Disk.content between) (g.D.Disk.loose between)) (sym c.prepare.ensures.slot) at_gate in
    subst (λ (at : Slot). IsAhead (record { slot = at; body = c.args.body.now }) none_free (g.D.Disk.content disk) (g.D.Disk.content after) (g.D.Disk.loose after)) (sym c.other_slot-standing.ensures)
    (from_ok c.put_gate.result (sym c.is_err-2.ensures.value ∙ c.if-is_err-2.false) (c.put_gate.ensures.new told was c.args.body.now free base (g.D.Disk.content disk) placed))

pub returns-clause-new_alone : goal.returns-clause-new_alone
returns-clause-new_alone g c told was free base image is greater now =
    let after = c.put_gate.new.disk in
    standing_opens false (record { slot = c.other_slot-standing.result; body = c.args.body.now }) none_free (g.D.Disk.content c.args.disk.now) (g.D.Disk.content after) image (g.D.Disk.loose after)
    (returns-clause-new g c told was free base is greater) (g.met.D.Disk.images_agree after image told now)

pub returns-clause-images : goal.returns-clause-images
returns-clause-images g c told was free base is greater =
    let disk = c.args.disk.now in
    let between = c.prepare.new.disk in
    let after = c.put_gate.new.disk in
    let at_gate = from_ok c.prepare.result (sym c.is_err.ensures.value ∙ c.if-is_err.false) (c.prepare.ensures.at_gate told was free base is greater) in
    let root = root_at c.args.standing.now was in
    let placed = subst (λ (at : Slot). IsAtGate (record { slot = at; body = was }) c.args.body.now free base (g.D.Disk.content disk) (g.D.Disk.content between) (g.D.Disk.loose between)) (sym c.prepare.ensures.slot) at_gate in
    adds_then g.D.Disk.moment g.D.Disk.images_since disk between after (IsOldOrNew root c.args.body.now free base (g.D.Disk.content disk))
    (λ earlier later image order since. g.met.D.Disk.earlier_counts after earlier later image told order since)
    (adds_wider g.D.Disk.moment g.D.Disk.images_since disk between (OpensTo root free base) (IsOldOrNew root c.args.body.now free base (g.D.Disk.content disk))
    (λ image opens. inl opens) (c.prepare.ensures.images told was free base is))
    (subst (λ (at : Slot). AddsImages g.D.Disk.moment g.D.Disk.images_since between after (IsOldOrNew (record { slot = at; body = was }) c.args.body.now free base (g.D.Disk.content disk))) c.prepare.ensures.slot
    (c.put_gate.ensures.images told was c.args.body.now free base (g.D.Disk.content disk) placed))

pub returns-then-is_err-2-clause-gate_call_in_doubt : goal.returns-then-is_err-2-clause-gate_call_in_doubt
returns-then-is_err-2-clause-gate_call_in_doubt g c answer =
    let between = c.prepare.new.disk in
    let after = c.put_gate.new.disk in
    let done = sym c.is_err.ensures.value ∙ c.if-is_err.false in
    let known = from_ok c.prepare.result done c.prepare.ensures.known in
    record {
      call = record {
        at_gate = between;
        before = c.prepare.ensures.leads;
        after = c.put_gate.ensures.leads;
        counted = c.prepare.ensures.never_falls;
        met = λ told was free base is.
            let stands = subst (λ closed. StandsBeside closed (root_at c.prepare.new.standing was) free base (g.D.Disk.content between)
            (g.D.Disk.loose between)) known (c.prepare.ensures.stands told was free base is) in
            subst (λ (at : Slot). IsUntilGate g.D.Disk.content g.D.Disk.loose g.D.Disk.moment g.D.Disk.images_since
            (record { slot = at; body = was }) free base c.args.disk.now between after) c.prepare.ensures.slot
            (record {
              old_alone = subst (λ (at : Slot). AddsImages g.D.Disk.moment g.D.Disk.images_since c.args.disk.now between (OpensTo
                  (record { slot = at; body = was }) free base)) (sym c.prepare.ensures.slot) (c.prepare.ensures.images told was free base is);
              alone = stands;
              settled = from_ok c.prepare.result done (c.prepare.ensures.settled told);
              gate_alone = c.put_gate.ensures.gate_alone told;
            });
      };
      rose = from_err c.put_gate.result (sym c.is_err-2.ensures.value ∙ c.if-is_err-2.true) c.put_gate.ensures.counted;
    }

pub returns-clause-gate_call : goal.returns-clause-gate_call
returns-clause-gate_call g c =
    let between = c.prepare.new.disk in
    let after = c.put_gate.new.disk in
    let done = sym c.is_err.ensures.value ∙ c.if-is_err.false in
    let known = from_ok c.prepare.result done c.prepare.ensures.known in
    record {
      at_gate = between;
      before = c.prepare.ensures.leads;
      after = c.put_gate.ensures.leads;
      counted = c.prepare.ensures.never_falls;
      met = λ told was free base is.
          let stands = subst (λ closed. StandsBeside closed (root_at c.prepare.new.standing was) free base (g.D.Disk.content between)
          (g.D.Disk.loose between)) known (c.prepare.ensures.stands told was free base is) in
          subst (λ (at : Slot). IsUntilGate g.D.Disk.content g.D.Disk.loose g.D.Disk.moment g.D.Disk.images_since
          (record { slot = at; body = was }) free base c.args.disk.now between after) c.prepare.ensures.slot
          (record {
            old_alone = subst (λ (at : Slot). AddsImages g.D.Disk.moment g.D.Disk.images_since c.args.disk.now between (OpensTo
                (record { slot = at; body = was }) free base)) (sym c.prepare.ensures.slot) (c.prepare.ensures.images told was free base is);
            alone = stands;
            settled = from_ok c.prepare.result done (c.prepare.ensures.settled told);
            gate_alone = c.put_gate.ensures.gate_alone told;
          });
    }
