use Rattle.std.proofs.Common.{◌∙◌, ◌<◌, ℕ, List, sym, subst, inl, inr, ⊎_elim, arith}
use Rattle.casper_root.specs.Format.{body_block}
use Rattle.casper_commit.specs.Added.{AddsImages}
use Rattle.casper_commit.specs.GateMoment.{CallsGate}
use Rattle.casper_commit.specs.Root.{seq_of}
use Rattle.casper_commit.specs.States.{IsAtGate, IsOldOrNew, OpensTo, RootStands, none_free, root_at}
use Rattle.casper_commit.proofs.AddedLemmas.{adds_then, adds_wider}
use Rattle.casper_commit.proofs.ResultLemmas.{from_ok}
use Rattle.casper_stable.specs.Writing.{IsOldOrWritten}
use Rattle.casper_stable.proofs.PieceLemmas.{pieces_apart, place_within}
use Rattle.casper_stable.proofs.WritingLemmas.{on_ok_more, held_written}
use Rattle.casper_stable.proofs.writing.put_plan.Goals as goal

pub put_frames-requires : goal.put_frames-requires
put_frames-requires g c piece early =
    place_within c.args.written.now (g.D.Disk.size c.args.disk.now) piece c.requires.is c.requires.room early

pub returns-then-is_err-clause-images : goal.returns-then-is_err-clause-images
returns-then-is_err-clause-images g c told was free base into is greater =
    let root = root_at c.args.standing.now was in
    adds_wider g.D.Disk.moment g.D.Disk.images_since c.args.disk.now c.put_frames.new.disk (OpensTo root free base)
    (IsOldOrWritten c.args.written.now root (body_block c.args.body.now) free base) (λ image opens. inl opens)
    (c.put_frames.ensures.images told c.args.standing.now.spare_closed root free base into is)

pub returns-then-is_err-clause-old_images : goal.returns-then-is_err-clause-old_images
returns-then-is_err-clause-old_images g c told was free base into is answer =
    c.put_frames.ensures.images told c.args.standing.now.spare_closed (root_at c.args.standing.now was) free base into is

pub returns-clause-new : goal.returns-clause-new
returns-clause-new g c told was free base into is greater =
    let middle = c.put_frames.new.disk in
    let known = c.args.standing.now.spare_closed in
    let root = root_at c.args.standing.now was in
    let still = c.put_frames.ensures.stands told known root free base into is in
    let all = from_ok c.put_frames.result (sym c.is_err.ensures.value
    ∙ c.if-is_err.false) (c.put_frames.ensures.written told (pieces_apart c.args.written.now c.requires.is)) in
    let held = held_written c.args.written.now known root free base (g.D.Disk.content middle) (g.D.Disk.loose middle) still all in
    let more = subst (λ (block : List ℕ). seq_of was < seq_of block) (sym c.to_block.ensures) greater in
    on_ok_more c.put_root.result
    (λ stands. record {
      framed = g.D.Disk.content middle;
      holds = held;
      stands = subst (λ (block : List ℕ). RootStands c.put_root.new.standing block none_free (g.D.Disk.content middle)
          (g.D.Disk.content c.put_root.new.disk) (g.D.Disk.loose c.put_root.new.disk))
          c.to_block.ensures stands;
    })
    (c.put_root.ensures.new told was free base still more)

pub returns-clause-doubt : goal.returns-clause-doubt
returns-clause-doubt g c told was free base into is greater answer =
    let middle = c.put_frames.new.disk in
    let known = c.args.standing.now.spare_closed in
    let root = root_at c.args.standing.now was in
    let still = c.put_frames.ensures.stands told known root free base into is in
    let all = from_ok c.put_frames.result (sym c.is_err.ensures.value
    ∙ c.if-is_err.false) (c.put_frames.ensures.written told (pieces_apart c.args.written.now c.requires.is)) in
    let held = held_written c.args.written.now known root free base (g.D.Disk.content middle) (g.D.Disk.loose middle) still all in
    let more = subst (λ (block : List ℕ). seq_of was < seq_of block) (sym c.to_block.ensures) greater in
    record {
      framed = g.D.Disk.content middle;
      holds = held;
      gate = subst (λ (block : List ℕ). IsAtGate root block free base (g.D.Disk.content middle) (g.D.Disk.content c.put_root.new.disk)
          (g.D.Disk.loose c.put_root.new.disk))
          c.to_block.ensures (c.put_root.ensures.doubt told was free base still more answer);
    }

pub returns-clause-images : goal.returns-clause-images
returns-clause-images g c told was free base into is greater =
    let disk = c.args.disk.now in
    let middle = c.put_frames.new.disk in
    let after = c.put_root.new.disk in
    let known = c.args.standing.now.spare_closed in
    let root = root_at c.args.standing.now was in
    let still = c.put_frames.ensures.stands told known root free base into is in
    let all = from_ok c.put_frames.result (sym c.is_err.ensures.value
    ∙ c.if-is_err.false) (c.put_frames.ensures.written told (pieces_apart c.args.written.now c.requires.is)) in
    let held = held_written c.args.written.now known root free base (g.D.Disk.content middle) (g.D.Disk.loose middle) still all in
    let more = subst (λ (block : List ℕ). seq_of was < seq_of block) (sym c.to_block.ensures) greater in
    let may_be = IsOldOrWritten c.args.written.now root (body_block c.args.body.now) free base in
    adds_then g.D.Disk.moment g.D.Disk.images_since disk middle after may_be
    (λ earlier later image order since. g.met.D.Disk.earlier_counts after earlier later image told order since)
    (adds_wider g.D.Disk.moment g.D.Disk.images_since disk middle (OpensTo root free base) may_be (λ image opens. inl opens)
    (c.put_frames.ensures.images told known root free base into is))
    (adds_wider g.D.Disk.moment g.D.Disk.images_since middle after (IsOldOrNew root (body_block c.args.body.now) free base
    (g.D.Disk.content middle)) may_be
    (λ image opens. ⊎_elim (λ old. inl old) (λ new. inr (record { framed = g.D.Disk.content middle; holds = held; opens = new })) opens)
    (subst (λ (block : List ℕ). AddsImages g.D.Disk.moment g.D.Disk.images_since middle after (IsOldOrNew root block free base
    (g.D.Disk.content middle)))
    c.to_block.ensures (c.put_root.ensures.images told was free base still more)))

pub returns-clause-old_images : goal.returns-clause-old_images
returns-clause-old_images g c told was free base into is answer =
    let disk = c.args.disk.now in
    let middle = c.put_frames.new.disk in
    let after = c.put_root.new.disk in
    let root = root_at c.args.standing.now was in
    let still = c.put_frames.ensures.stands told c.args.standing.now.spare_closed root free base into is in
    adds_then g.D.Disk.moment g.D.Disk.images_since disk middle after (OpensTo root free base)
    (λ earlier later image order since. g.met.D.Disk.earlier_counts after earlier later image told order since)
    (c.put_frames.ensures.images told c.args.standing.now.spare_closed root free base into is)
    (c.put_root.ensures.old_images told was free base still answer)

pub returns-clause-gate_call : goal.returns-clause-gate_call
returns-clause-gate_call g c =
    let disk = c.args.disk.now in
    let middle = c.put_frames.new.disk in
    let after = c.put_root.new.disk in
    let known = c.args.standing.now.spare_closed in
    let frames = c.put_frames.ensures.never_falls in
    on_ok_more c.put_root.result (λ (called : CallsGate g.D.Disk.leads_to g.D.Disk.faults _ c.put_frames.new.disk c.put_root.new.disk). record {
      at_gate = called.at_gate;
      before = g.met.D.Disk.leads_on disk middle called.at_gate c.put_frames.ensures.leads called.before;
      after = called.after;
      counted = (let later = called.counted in omega (arith, frames, later));
      met = λ told was free base into is.
          let root = root_at c.args.standing.now was in
          let stood = called.met told was free base (c.put_frames.ensures.stands told known root free base into is) in record {
            old_alone = adds_then g.D.Disk.moment g.D.Disk.images_since disk middle called.at_gate (OpensTo root free base)
                (λ earlier later image order since. g.met.D.Disk.earlier_counts called.at_gate earlier later image told order since)
                (c.put_frames.ensures.images told known root free base into is) stood.old_alone;
            alone = stood.alone;
            settled = stood.settled;
            gate_alone = stood.gate_alone;
          };
    }) c.put_root.ensures.gate_call

pub returns-clause-gate_call_in_doubt : goal.returns-clause-gate_call_in_doubt
returns-clause-gate_call_in_doubt g c answer =
    let fails = c.put_root.ensures.gate_call_in_doubt answer in
    let called = fails.call in
    let disk = c.args.disk.now in
    let middle = c.put_frames.new.disk in
    let after = c.put_root.new.disk in
    let known = c.args.standing.now.spare_closed in
    let frames = c.put_frames.ensures.never_falls in
    record {
      call = record {
        at_gate = called.at_gate;
        before = g.met.D.Disk.leads_on disk middle called.at_gate c.put_frames.ensures.leads called.before;
        after = called.after;
        counted = (let later = called.counted in omega (arith, frames, later));
        met = λ told was free base into is.
            let root = root_at c.args.standing.now was in
            let stood = called.met told was free base (c.put_frames.ensures.stands told known root free base into is) in record {
              old_alone = adds_then g.D.Disk.moment g.D.Disk.images_since disk middle called.at_gate (OpensTo root free base)
                  (λ earlier later image order since. g.met.D.Disk.earlier_counts called.at_gate earlier later image told order since)
                  (c.put_frames.ensures.images told known root free base into is) stood.old_alone;
              alone = stood.alone;
              settled = stood.settled;
              gate_alone = stood.gate_alone;
            };
      };
      rose = fails.rose;
    }
