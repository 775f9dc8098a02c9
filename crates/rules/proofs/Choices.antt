-- A call that chooses an edition is a format, and one that resumes a slot is a resume. Assumes nothing.
use mathlib.Core.Path.{◌≡◌, ap, ap₂}
use mathlib.Core.Option.{Option, none, some}
use Prim.Native.Nat.{ℕ}
use native.Mathlib.Omega.{arith}
use Rattle.rules.specs.Call.{Call, format_all, create_partition, delete_partition, add_vaddr, remove_vaddr, page_count, prepare, collect, mapped_in_child}
use Rattle.rules.specs.Call.{enter, leave, load, store, notify, dispatch, resume, choice, resumption}

some_eq : {A : Type 0} {e f : A} → ◌≡◌ {A = Option A} (some e) (some f) → e ≡ f
some_eq h = cc

never : {A B : Type 0} {e : B} → ◌≡◌ {A = Option B} none (some e) → A
never h = let z : ◌≡◌ {A = ℕ} 0 1 = cc in absurd (omega arith)

pub is-format : (c : Call) (e : ℕ) → choice c ≡ some e → c ≡ format_all e
unfolding choice
is-format (format_all f) e h = ap format_all (some_eq h)
is-format (create_partition p d s t l) e h = never h
is-format (delete_partition c) e h = never h
is-format (add_vaddr p c t r) e h = never h
is-format (remove_vaddr c t) e h = never h
is-format (page_count c t) e h = never h
is-format (prepare c t p) e h = never h
is-format (collect c t) e h = never h
is-format (mapped_in_child p) e h = never h
is-format (enter c) e h = never h
is-format leave e h = never h
is-format (load a) e h = never h
is-format (store a x) e h = never h
is-format (notify t p f r) e h = never h
is-format (dispatch t) e h = never h
is-format (resume t s) e h = never h

pub is-resume : (c : Call) (t s : ℕ) → resumption c ≡ some (t, s) → c ≡ resume t s
unfolding resumption
is-resume (format_all f) t s h = never h
is-resume (create_partition p d x v l) t s h = never h
is-resume (delete_partition c) t s h = never h
is-resume (add_vaddr p c v r) t s h = never h
is-resume (remove_vaddr c v) t s h = never h
is-resume (page_count c v) t s h = never h
is-resume (prepare c v p) t s h = never h
is-resume (collect c v) t s h = never h
is-resume (mapped_in_child p) t s h = never h
is-resume (enter c) t s h = never h
is-resume leave t s h = never h
is-resume (load a) t s h = never h
is-resume (store a x) t s h = never h
is-resume (notify u p f r) t s h = never h
is-resume (dispatch u) t s h = never h
is-resume (resume u v) t s h = let e : ◌≡◌ {A = ℕ × ℕ} (u, v) (t, s) = some_eq h in ap₂ resume (ap (λ (x : ℕ × ℕ). x.0) e) (ap (λ (x : ℕ × ℕ). x.1) e)
