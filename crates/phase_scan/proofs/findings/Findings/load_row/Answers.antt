use Rattle.std.proofs.Common.{◌≡◌, ◌+◌, ◌<◌, arith, length, get_or, refl, subst, vec_len, List, ℕ}
use Rattle.armus_base.specs.calls.StatusLists.{IsNextMarked}
use Rattle.phase_scan.specs.calls.Collects.{LoadsRow}
use Rattle.phase_scan.specs.calls.Tables.{awaited_in_findings, phases_in_found}
use Rattle.phase_scan.proofs.Keeping.{next_read, others_stay, row_more, row_to_next, still_of}
use Rattle.phase_scan.proofs.findings.Findings.load_row.Goals as goal

pub row-init : goal.row-init
row-init g c =
    let self = c.args.self.now in
    let room : length self.nexts.items ≡ self.phasers + 1 = (let count = self.next_count in let counted : vec_len self.nexts ≡ length self.nexts.items = self.nexts.ok.0 in
    omega arith) in
    let next = next_read (awaited_in_findings self) self.phasers self.nexts.items 0 c.index-p.result.now c.requires.nexts room (omega arith) c.index-p.ensures in
    record {
      made = c.requires.made;
      same = record { tasks = refl; phasers = refl; events = refl; awaited = refl; nexts = refl };
      others = λ u n. refl;
      within = next.within;
      asked = next.is_marked;
      loads = row_to_next (awaited_in_findings self) c.args.t.0 (phases_in_found self.phases c.args.t.0) self.phasers 0 c.index-p.result.now (g.L.Loads.known c.args.by.now)
          (g.L.Loads.known c.args.by.now) refl next;
    }

pub row-preserved : goal.row-preserved
row-preserved g c =
    let i = c.row.invariant in
    let self = c.row.self in
    let first = c.args.self.now in
    let p = c.row.p in
    let t = c.args.t.0 in
    let before = g.L.Loads.known c.args.by.now in
    let between = g.L.Loads.known c.row.by in
    let j = g.L.Loads.known c.load_phase-found.new.self in
    let load = c.load_phase-found.ensures.answer in
    let answer = c.load_phase-found.result in
    let few : p < first.phasers = (let test = c.row-test.true in let same = i.same.phasers in omega arith) in
    let room : length first.nexts.items ≡ first.phasers + 1 = (let count = first.next_count in let counted : vec_len first.nexts ≡ length first.nexts.items = first.nexts.ok.0 in
    omega arith) in
    let next : IsNextMarked (awaited_in_findings first) first.phasers (p + 1) c.index-p-in-row.result.now =
    next_read (awaited_in_findings first) first.phasers first.nexts.items (p + 1) c.index-p-in-row.result.now c.requires.nexts room (omega arith)
    (subst (λ (xs : List ℕ). c.index-p-in-row.result.now ≡ get_or xs (p + 1) c.index-p-in-row.result.now) i.same.nexts c.index-p-in-row.ensures) in
    let more = row_more (awaited_in_findings first) t (phases_in_found self.phases) (phases_in_found c.set.new.self) p answer before between j i.loads (i.asked few) load
    c.set.ensures.set in
    record {
      made = still_of between j c.args.board.now i.made load.table load.load.same;
      same = record { tasks = i.same.tasks; phasers = i.same.phasers; events = i.same.events; awaited = i.same.awaited; nexts = i.same.nexts };
      others = λ u n. others_stay (phases_in_found first.phases) (phases_in_found self.phases) (phases_in_found c.set.new.self) t p answer c.set.ensures.set u n (i.others u n);
      within = next.within;
      asked = next.is_marked;
      loads = row_to_next (awaited_in_findings first) t (phases_in_found c.set.new.self t) first.phasers (p + 1) c.index-p-in-row.result.now before j more next;
    }

pub returns-clause-same : goal.returns-clause-same
returns-clause-same g c = c.row.invariant.same

pub returns-clause-row : goal.returns-clause-row
returns-clause-row g c =
    let i = c.row.invariant in
    let first = c.args.self.now in
    let last = c.row.self in
    let all : c.row.p ≡ first.phasers = (let within = i.within in let ended = c.row-test.false in let same = i.same.phasers in omega arith) in
    record {
      others = i.others;
      loads =
          subst (λ n. LoadsRow (awaited_in_findings first) c.args.t.0 (phases_in_found last.phases c.args.t.0) n (g.L.Loads.known c.args.by.now) (g.L.Loads.known c.row.by)) all
          i.loads;
    }
