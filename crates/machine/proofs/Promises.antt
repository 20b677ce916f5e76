-- The main promise for the stage: by every list of calls, memory is that of the text as the calls left it.
use Rattle.std.proofs.Common.{◌≡◌, ◌<◌, true, List, [], ◌∷◌, sym, refl, ap, ◌∙◌, subst, ap₂, arith}
use Rattle.std.proofs.lemmas.Bool.{and_from, le-leb}
use Rattle.meaning.specs.Text.{Tokens}
use Rattle.meaning.specs.Pages.{Looks}
use Rattle.meaning.specs.Calls.{Call, Limits, Text, sizes, def_sizes, short_all, turned, answers, ran}
use Rattle.meaning.specs.Promise.{GoodLooks, GoodLimits, told_by, left_by, Right, RefusalKeeps, EnoughMemory}
use Rattle.meaning.proofs.Turned.{after_turned_away}
use Rattle.wire.specs.Stage.{stage_tokens, stage_calls}
use Rattle.store.specs.Opened.{header, opened}
use Rattle.machine.specs.Setter.{setter, next}
use Rattle.machine.proofs.Memories.{memory, opened_memory}
use Rattle.machine.proofs.Fits.{plain, Fitting, fitting}
use Rattle.machine.proofs.OpenText.{length_tokens, length_kept, length_words}
use Rattle.machine.proofs.Steps.{Holds, Step}
use Rattle.machine.proofs.ByCall.{step}
use Rattle.machine.proofs.Bounds.{tokens_below, words_below, kept_below}

pub holds_nothing : (l : Limits) → Holds l []
unfolding sizes def_sizes short_all
holds_nothing l =
    record {
      fit =
          and_from _ _ (and_from _ _ (le-leb 0 l.paragraphs (omega arith)) (le-leb 0 l.definitions (omega arith)))
          (and_from _ true (le-leb 0 l.tokens (omega arith)) refl);
      goods = tt;
    }

-- memory and text after calls
record Left (l : Limits) (g : Looks) (ps : List Tokens) (cs : List Call) : Type 0 where
  afterwards : List Tokens
  means : ran l g (plain ps) cs ≡ plain afterwards
  leaves : left_by setter (memory l g ps) cs ≡ memory l g afterwards
  holds : Holds l afterwards

module _ (l : Limits) (g : Looks) (good : GoodLooks g) (small : GoodLimits l) (tokens : l.tokens_can ≡ stage_tokens) (calls : l.calls_can ≡ stage_calls) where
  told_right : (ps : List Tokens) (cs : List Call) → Holds l ps → told_by setter (memory l g ps) cs ≡ answers l g (plain ps) cs
  unfolding told_by answers
  told_right ps [] h = refl
  told_right ps (c ∷ cs) h =
      let s : Step l g ps c = step l g good small tokens calls ps c h in
      ap₂ ◌∷◌ s.answers_so
      (ap (λ m. told_by setter m cs) s.leaves ∙ (told_right s.afterwards cs s.holds ∙ ap (λ t. answers l g t cs) (sym s.means)))

  left_so : (ps : List Tokens) (cs : List Call) → Holds l ps → Left l g ps cs
  unfolding left_by ran
  left_so ps [] h = record { afterwards = ps; means = refl; leaves = refl; holds = h }
  left_so ps (c ∷ cs) h =
      let s : Step l g ps c = step l g good small tokens calls ps c h in
      let r : Left l g s.afterwards cs = left_so s.afterwards cs s.holds in
      record {
        afterwards = r.afterwards;
        means = ap (λ t. ran l g t cs) s.means ∙ r.means;
        leaves = ap (λ m. left_by setter m cs) s.leaves ∙ r.leaves;
        holds = r.holds;
      }

  next_refused : (ps : List Tokens) (c : Call) → Holds l ps → 0 < turned l g (plain ps) c → next (memory l g ps) c ≡ memory l g ps
  next_refused ps c h away =
      let s : Step l g ps c = step l g good small tokens calls ps c h in
      s.leaves ∙ ap (λ (t : Text). memory l g t.paragraphs) (sym s.means ∙ after_turned_away l g (plain ps) c away)

pub setter_right : Right stage_tokens stage_calls setter
unfolding Right
setter_right l g cs tokens calls good small readable =
    ap (λ m. told_by setter m cs) (opened_memory l g) ∙ told_right l g good small tokens calls [] cs (holds_nothing l)

pub setter_refusal_keeps : RefusalKeeps stage_tokens stage_calls setter
unfolding RefusalKeeps
setter_refusal_keeps l g cs c tokens calls good small readable away =
    let left : Left l g [] cs = left_so l g good small tokens calls [] cs (holds_nothing l) in
    let is : left_by setter (opened l g) cs ≡ memory l g left.afterwards = ap (λ m. left_by setter m cs) (opened_memory l g) ∙ left.leaves in
    ap (λ m. next m c) is ∙ (next_refused l g good small tokens calls left.afterwards c left.holds (subst (λ t. 0 < turned l g t c) left.means away) ∙ sym is)

-- the machine does not see what the limits say of the stage
abbrev for_stage : Limits → Limits
for_stage l =
    record { tokens_can = stage_tokens; calls_can = stage_calls; paragraphs = l.paragraphs; tokens = l.tokens; definitions = l.definitions; bulk = l.bulk }

opened_for_stage : (l : Limits) (g : Looks) → opened l g ≡ opened (for_stage l) g
unfolding opened header
opened_for_stage l g = refl

pub setter_enough_memory : EnoughMemory setter
unfolding EnoughMemory
setter_enough_memory l g cs good small readable =
    let k : Limits = for_stage l in
    let left : Left k g [] cs = left_so k g good small refl refl [] cs (holds_nothing k) in
    let ps : List Tokens = left.afterwards in
    let is : left_by setter (opened l g) cs ≡ memory k g ps = ap (λ m. left_by setter m cs) (opened_for_stage l g ∙ opened_memory k g) ∙ left.leaves in
    let few : Fitting k ps = fitting k ps left.holds.fit in
    rw is (
      omega (arith, length_tokens k g ps few),
      tokens_below k g ps left.holds.goods,
      omega (arith, length_words k g ps few, length_kept k g ps few),
      words_below k g ps,
      omega (arith, length_kept k g ps few),
      kept_below k g ps good small few,
    )
