-- That a run goes on holding what its log says, call by call.
use Rattle.std.proofs.Common.{◌≡◌, ℕ, ◌+◌, ◌<◌, ◌≤◌, Bool, true, false, cond, List, [], ◌∷◌, ◌++◌, map, length, get_or, replicate, ℤ, pos, ◌+ℤ◌, ◌*ℤ◌, nat_abs, Some, None, fold, Option, sym, refl, ap, ◌∙◌, subst, ⊎_elim, append_assoc, append-nil, arith, pow_pos}
use lib.IntN.{+ℤ_assoc, +ℤ_comm}
use Rattle.std.proofs.lemmas.List.{get_or-replicate, length-replicate, get_or_past, length_push, map_push}
use Rattle.std.proofs.lemmas.Bool.{cases_lt, both_ways}
use Rattle.std.proofs.lemmas.List.FromFn.{get_or-map-range_with_len, length-map-range_with_len}
use Rattle.refusals.specs.declared.Refusal.{Refusal}
use Rattle.refusals.specs.Refusing.{unless}
use Rattle.sums.specs.Terms.{Term, step_of, total, slack, loss, lost, cut}
use Rattle.sums.proofs.Slack.{tells, none_lost, none_slack}
use Rattle.alignment.specs.Tile.{Tile, survey_check, largest}
use Rattle.sheets.specs.Page.{Page}
use Rattle.units.specs.Meaning.{Meaning, columns_of, grown, cleared}
use Rattle.units.proofs.Reach.{length_plus, get_or_plus, get_or_scaled}
use Rattle.runs.specs.Checks.{Setting, setting, feed_check}
use Rattle.runs.specs.State.{State, Row, setting_of, step_size, opened, surveyed, fed, fed_check, restarted, widened, put, add_row, rows_of}
use Rattle.runs.specs.Log.{Log, survey, feed, clear, empty, raised, with_rows, refusal, after, term_at, terms, step, Holds, Logged, Sound}

-- ---- sums, one term more
total_push : (s : ℕ) (ts : List Term) (t : Term) → total s (ts ++ t ∷ []) ≡ total s ts +ℤ cut s t.value *ℤ t.weight
total_push s [] t = +ℤ_comm (cut s t.value *ℤ t.weight) (pos 0)
total_push s (u ∷ ts) t = ap (λ z. cut s u.value *ℤ u.weight +ℤ z) (total_push s ts t) ∙ sym (+ℤ_assoc (cut s u.value *ℤ u.weight) (total s ts) (cut s t.value *ℤ t.weight))

slack_push : (s : ℕ) (ts : List Term) (t : Term) → slack s (ts ++ t ∷ []) ≡ slack s ts + loss s t
slack_push s [] t = omega arith
slack_push s (u ∷ ts) t = omega (arith, slack_push s ts t)

-- ---- opening, and clear
zeros : (c : ℕ) → ◌≡◌ {A = ℕ} (get_or (replicate 16 0) c 0) 0
zeros c = ⊎_elim (λ k. get_or-replicate 16 c 0 0 k) (λ k. get_or_past (replicate 16 0) c 0 k) (cases_lt c 16)

pub holds_opened : (least : ℤ) (extra : ℕ) (m : Meaning) → columns_of m ≤ 16 → Holds (empty (setting least extra m)) (opened least extra m)
holds_opened least extra m few = record {
  setting = ap (λ n. record { least = least; extra = extra; columns = n; limit = m.limit; takes = m.takes }) (length-replicate (columns_of m) (pos 0));
  stage = refl;
  shared = refl;
  rows = refl;
  unit_rows = refl;
  wide = few;
  none_yet = λ _. refl;
  totals = λ c k. get_or-replicate (columns_of m) c (pos 0) (pos 0) k;
  slacks = λ c k. zeros c;
}

-- a run that begins at a shared exponent on a unit
abbrev begun : ℤ → ℕ → ℤ → Meaning → State
begun least extra shared m = record { aligned = false; least = least; extra = extra; shared = shared; rows = 0; slacks = replicate 16 0; unit = m }

pub begun_is : (least : ℤ) (extra : ℕ) (shared : ℤ) (m n : Meaning) → shared ≡ least → n ≡ cleared m → begun least extra shared n ≡ opened least extra m
begun_is least extra shared m n p q = ap (λ k. begun least extra k n) p ∙ ap (begun least extra least) q

pub logged_clear : (s t : State) → columns_of s.unit ≤ 16 → t ≡ restarted s → Logged clear s t None
logged_clear s t few e = λ l h. (refl, subst (Holds (empty l.setting)) (sym e) (subst (λ z. Holds (empty z) (restarted s)) h.setting (holds_opened s.least s.extra s.unit few)))

-- ---- a call that may be refused
either_way : {X Y : Type 0} (R : X → Y → Type 0) (o : Option Refusal) (x x' : X) (y y' : Y) → R x y → R x' y' → R (unless o x x') (unless o y y')
either_way R None x x' y y' old new = new
either_way R (Some e) x x' y y' old new = old

-- ---- survey
-- no term yet: the sums do not depend on the step
module _ (l : Log) (s : State) (h : Holds l s) (none : l.fed ≡ []) (c : ℕ) (k : c < l.setting.columns) (st : ℕ) where
  total_none : get_or s.unit.totals c (pos 0) ≡ total st (terms l c)
  total_none = h.totals c k ∙ ap (λ (rs : List Row). total (step l) (map (term_at c) rs)) none ∙ sym (ap (λ (rs : List Row). total st (map (term_at c) rs)) none)

  slack_none : get_or s.slacks c 0 ≡ slack st (terms l c)
  slack_none = h.slacks c k ∙ ap (λ (rs : List Row). slack (step l) (map (term_at c) rs)) none ∙ sym (ap (λ (rs : List Row). slack st (map (term_at c) rs)) none)

holds_surveyed : (l : Log) (s : State) (ts : Tile) → s.aligned ≡ false → Holds l s → Holds (after l (survey ts)) (surveyed s ts)
holds_surveyed l s ts a h =
    let none = h.none_yet (sym h.stage ∙ a) in
    either_way Holds (survey_check ts) l (raised l ts) s _ h
    (record {
      setting = h.setting;
      stage = h.stage;
      shared = ap (λ k. largest k ts) h.shared;
      rows = h.rows;
      unit_rows = h.unit_rows;
      wide = h.wide;
      none_yet = λ _. none;
      totals = λ c k. total_none l s h none c k _;
      slacks = λ c k. slack_none l s h none c k _;
    })

pub logged_survey : (s t : State) (ts : Tile) → s.aligned ≡ false → t ≡ surveyed s ts → Logged (survey ts) s t (survey_check ts)
logged_survey s t ts a e = λ l h. (refl, subst (Holds (after l (survey ts))) (sym e) (holds_surveyed l s ts a h))

-- ---- feed
-- a slack at a row: it grows where the row is lost
slack_row : (b : Bool) (ns : List ℕ) (ws : List ℤ) (c : ℕ) → c < length ns → get_or (cond b (widened ns ws) ns) c 0 ≡ get_or ns c 0 + cond b (nat_abs (get_or ws c (pos 0))) 0
slack_row true ns ws c k = get_or-map-range_with_len (λ i. get_or ns i 0 + nat_abs (get_or ws i (pos 0))) 0 (length ns) c c 0 k (omega arith)
slack_row false ns ws c k = omega arith

pub length_row : (b : Bool) (ns : List ℕ) (ws : List ℤ) → length (cond b (widened ns ws) ns) ≡ length ns
length_row true ns ws = length-map-range_with_len (λ i. get_or ns i 0 + nat_abs (get_or ws i (pos 0))) 0 (length ns)
length_row false ns ws = refl

same_step : (l : Log) (s : State) → Holds l s → step_size s ≡ step l
same_step l s h = ap (λ k. step_of k s.extra) h.shared ∙ ap (λ (z : Setting). step_of l.shared z.extra) h.setting

-- a row more leaves what opening settled
pub setting_kept : (s : State) (a : ℤ) (b : Bool) (ws : List ℤ) → setting_of (put s a b ws) ≡ setting_of s
setting_kept s a b ws =
    ap (λ n. record { least = s.least; extra = s.extra; columns = n; limit = s.unit.limit; takes = s.unit.takes }) (length_plus s.unit.totals (map (λ w. a *ℤ w) ws))

-- a total at a row: it grows by the aligned number times the weight
total_row : (ts : List ℤ) (a : ℤ) (ws : List ℤ) (c : ℕ) → c < length ts → get_or (grown ts a ws) c (pos 0) ≡ get_or ts c (pos 0) +ℤ a *ℤ get_or ws c (pos 0)
total_row ts a ws c k = get_or_plus ts (map (λ w. a *ℤ w) ws) c k ∙ ap (λ z. get_or ts c (pos 0) +ℤ z) (get_or_scaled a ws c)

holds_row : (l : Log) (s : State) (r : Row) → l.aligned ≡ true → Holds l s → Holds (with_rows l (r ∷ [])) (add_row s r)
holds_row l s r a h =
    let st = step_size s in
    let same = same_step l s h in
    let columns : columns_of s.unit ≡ l.setting.columns = ap (λ (z : Setting). z.columns) h.setting in
    record {
      setting = setting_kept s (cut st r.value) (lost st r.value) r.weights ∙ h.setting;
      stage = h.stage;
      shared = h.shared;
      rows = omega (arith, h.rows, length_push l.fed r);
      unit_rows = omega (arith, h.unit_rows, length_push l.fed r);
      wide = rw length_row h.wide;
      none_yet = λ f. absurd (both_ways l.aligned f a);
      totals = λ c k.
          total_row s.unit.totals (cut st r.value) r.weights c (omega (arith, columns, k))
          ∙ ap (λ z. z +ℤ cut st r.value *ℤ get_or r.weights c (pos 0)) (h.totals c k)
          ∙ ap (λ n. total (step l) (terms l c) +ℤ cut n r.value *ℤ get_or r.weights c (pos 0)) same
          ∙ sym (total_push (step l) (terms l c) (term_at c r))
          ∙ sym (ap (total (step l)) (map_push (term_at c) l.fed r));
      slacks = λ c k.
          slack_row (lost st r.value) s.slacks r.weights c (omega (arith, h.wide, k))
          ∙ ap (λ n. n + loss st (term_at c r)) (h.slacks c k)
          ∙ ap (λ n. slack (step l) (terms l c) + loss n (term_at c r)) same
          ∙ sym (slack_push (step l) (terms l c) (term_at c r))
          ∙ sym (ap (slack (step l)) (map_push (term_at c) l.fed r));
    }

abbrev with_fed : Log → List Row → Log
with_fed l rows = record { setting = l.setting; aligned = l.aligned; shared = l.shared; fed = rows }

holds_rows : (rs : List Row) (l : Log) (s : State) → l.aligned ≡ true → Holds l s → Holds (with_rows l rs) (fold add_row s rs)
holds_rows [] l s a h = subst (λ (rows : List Row). Holds (with_fed l rows) s) (sym (append-nil l.fed)) h
holds_rows (r ∷ rs) l s a h =
    subst (λ (rows : List Row). Holds (with_fed l rows) (fold add_row (add_row s r) rs)) (append_assoc l.fed (r ∷ []) rs)
    (holds_rows rs (with_rows l (r ∷ [])) (add_row s r) a (holds_row l s r a h))

-- the log's checks are the run's
same_check : (l : Log) (s : State) (ts : Tile) (p : Page) → Holds l s → refusal l (feed ts p) ≡ fed_check s ts p
same_check l s ts p h =
    ap (λ (z : Setting). feed_check z l.shared (length l.fed) ts p) (sym h.setting)
    ∙ ap (λ k. feed_check (setting_of s) k (length l.fed) ts p) (sym h.shared)
    ∙ ap (λ n. feed_check (setting_of s) s.shared n ts p) (omega (arith, h.rows, h.unit_rows))

holds_fed : (l : Log) (s : State) (ts : Tile) (p : Page) → s.aligned ≡ true → Holds l s → Holds (after l (feed ts p)) (fed s ts p)
holds_fed l s ts p a h =
    subst (λ (o : Option Refusal). Holds (unless o l (with_rows l (rows_of p 0 ts))) (fed s ts p)) (sym (same_check l s ts p h))
    (either_way Holds (fed_check s ts p) l _ s _ h (holds_rows (rows_of p 0 ts) l s (sym h.stage ∙ a) h))

pub logged_feed : (s t : State) (ts : Tile) (p : Page) → s.aligned ≡ true → t ≡ fed s ts p → Logged (feed ts p) s t (fed_check s ts p)
logged_feed s t ts p a e = λ l h. (same_check l s ts p h, subst (Holds (after l (feed ts p))) (sym e) (holds_fed l s ts p a h))

-- ---- what the total and the slack of a held log say
pub sound : (l : Log) (s : State) → Holds l s → Sound l s
sound l s h c k =
    let slacks = h.slacks c k in
    record {
      tells = rw (h.totals c k, slacks) (tells (step l) (terms l c) (pow_pos _));
      lost_weight = slacks;
      none_lost = λ e. none_lost (step l) (terms l c) (sym slacks ∙ e);
      no_slack = λ a. slacks ∙ none_slack (step l) (terms l c) a;
    }
