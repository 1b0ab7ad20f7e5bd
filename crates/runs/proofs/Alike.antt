-- Two columns with one step and the same terms, each as often, read alike.
use Rattle.std.proofs.Common.{◌≡◌, ℕ, ◌<◌, ℤ, pos, ◌-ℤ◌, sym, refl, ap, ◌∙◌}
use Rattle.sums.specs.Terms.{grains, total, slack}
use Rattle.sums.proofs.Counting.{order_free}
use Rattle.rounding.specs.Word.{nearest_word}
use Rattle.runs.specs.declared.Reading.{Reading}
use Rattle.runs.specs.Checks.{Setting}
use Rattle.runs.specs.State.{State, figures, reading}
use Rattle.runs.specs.Log.{Log, Holds, ReadsAlike, step_exponent, step, terms, reading_of}

-- the figures of equal totals, slacks and exponents
pub same_figures : (t u : ℤ) (n k : ℕ) (e f : ℤ) → t ≡ u → n ≡ k → e ≡ f → figures t n e ≡ figures u k f
same_figures t u n k e f p q r = ap (λ x. figures x n e) p ∙ ap (λ x. figures u x e) q ∙ ap (figures u k) r

-- what a reading holds, from its parts
pub figures_are : (t u : ℤ) (n : ℕ) (e f : ℤ) (w : ℕ) → t ≡ u → e ≡ f → w ≡ nearest_word t e → ◌≡◌ {A = Reading} (record { total = t; slack = n; exponent = e; word = w }) (figures u n f)
figures_are t u n e f w p q r = ap (λ (x : ℕ). record { total = t; slack = n; exponent = e; word = x }) r ∙ same_figures t u n n e f p refl q

same_exponent : (l : Log) (s : State) → Holds l s → s.shared -ℤ pos s.extra ≡ step_exponent l
same_exponent l s h = ap (λ k. k -ℤ pos s.extra) h.shared ∙ ap (λ (z : Setting). l.shared -ℤ pos z.extra) h.setting

-- a column reads what its terms say
pub reads : (l : Log) (s : State) (c : ℕ) → Holds l s → c < l.setting.columns → reading s c ≡ reading_of l c
reads l s c h k = same_figures _ _ _ _ _ _ (h.totals c k) (h.slacks c k) (same_exponent l s h)

pub reads_alike : (l : Log) (s : State) → Holds l s → ReadsAlike l s
reads_alike l s h m t k c d a =
    let same = ap grains a.stepped in
    let free = order_free (step m) (terms l c) (terms m d) a.same in
    reads l s c h a.left
    ∙ same_figures _ _ _ _ _ _
    (ap (λ n. total n (terms l c)) same ∙ free.0)
    (ap (λ n. slack n (terms l c)) same ∙ free.1)
    a.stepped
    ∙ sym (reads m t d k a.right)
