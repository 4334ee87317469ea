use Rattle.std.proofs.Common.{◌≡◌, ℕ, ◌+◌, ◌/◌, ◌≤◌, Bool, false, ◌∙◌, replicate, inl, inr, arith}
use Rattle.std.proofs.lemmas.Bool.{cases_lt, lt-ltb}
use Rattle.std.proofs.lemmas.Bool.Decides.{nat_tests}
use Rattle.bits.specs.Sets.{among}
use Rattle.bits.specs.declared.set.BitSet.{BitSet}
use Rattle.bits.proofs.Holds.{among_past}
use Rattle.spans.specs.Sets.{in_sets}
use Rattle.spans.proofs.Resized.{sets_none}
use Rattle.sharing.specs.Filling.{about, in_word}
use Rattle.sharing.specs.Table.{held_by}
use Rattle.sharing.proofs.Gathered.{from_word, gathered_none, gathered_part, gathered_all, word_split}
use Rattle.sharing.proofs.table.Table.gather.Goals as goal

-- All are left at first.
all_left : (set : ℕ → Bool) (t : ℕ) → from_word 0 set t ≡ set t
all_left set t = grind (arith, nat_tests)

pub loop-c-init : goal.loop-c-init
loop-c-init g c = λ r y.
    let s = about g.row.W c.args.self.now in
    let set = among g.row.W c.args.set.now in
    gathered_none s r (from_word 0 set) (in_sets (replicate 8 c.empty-held.result) r) (sets_none c.empty-held.result c.empty-held.ensures 8 r) y
    ∙ (λ i. held_by s (λ t. all_left set t i) r y)

pub loop-c-preserved : goal.loop-c-preserved
loop-c-preserved g c = λ r.
    let s = about g.row.W c.args.self.now in
    let set = among g.row.W c.args.set.now in
    gathered_part s r (held_by s set r) (in_sets c.loop-c.held r) (from_word c.loop-c.c set) (in_word c.loop-c.c c.word.result) (in_sets c.gather_word.new.held r)
    (from_word (c.loop-c.c + 1) set) (word_split c.loop-c.c c.word.result set c.word.ensures) (c.gather_word.ensures r) (c.loop-c.invariant r)

none_left : (w c : ℕ) (s : BitSet w) (t : ℕ) → w ≤ c → from_word c (among w s) t ≡ false
none_left w c s t h =
    elim (cases_lt (t / 64) c) [
      | inl l ↦ let e = lt-ltb (t / 64) c l in grind (arith, nat_tests)
      | inr l ↦ let e = among_past w s t (omega arith) in grind (arith, nat_tests)
    ]

pub returns : goal.returns
returns g c = λ r.
    let s = about g.row.W c.args.self.now in
    let set = among g.row.W c.args.set.now in
    gathered_all s r (held_by s set r) (in_sets c.loop-c.held r) (from_word c.loop-c.c set) (λ t. none_left g.row.W c.loop-c.c c.args.set.now t c.loop-c-test.false) (c.loop-c.invariant r)
