-- The table's third column: what each call that is not refused leaves in memory. d is the caller, k the child's descriptor page. Assumes nothing.
use Rattle.std.specs.Prelude.{List, [], ◌∷◌, ◌++◌, cond, ℕ, zero, suc, ◌+◌, ◌-◌, ◌*◌, ◌/◌, ◌%◌, eqb, get_or, set, take, drop, replicate}
use Rattle.memory.specs.Geometry.{width_of, page_words, address, page_of, directory_index, place}
use Rattle.memory.specs.Words.{index, page, word, put, overwrite, fill}
use Rattle.memory.specs.Entry.{entry, accessible}
use Rattle.memory.specs.Format.{format}
use Rattle.memory.specs.Partition.{current, directory, shadow1, shadow2, list, parent, threes, table_for, mapping, lent, above, set_mapping, set_lent}
use Rattle.memory.specs.Partition.{set_above, flag, set_flag}
use Rattle.memory.specs.Contexts.{to_child_slot, to_parent_slot, pipflags_place, slot_word, valid, save_in, clear_valid}
use Rattle.rules.specs.Call.{Call, format_all, create_partition, delete_partition, add_vaddr, remove_vaddr, page_count, prepare, collect}
use Rattle.rules.specs.Call.{mapped_in_child, enter, leave, load, store, notify, dispatch, resume, Registers, register_words}
use Rattle.rules.specs.Moves.{take_all, return_all, return_page, pairs}
use Rattle.rules.specs.Conditions.{pages_in, child, link, target}

-- every second word of a list, from the first
abbrev pub evens : List ℕ → List ℕ
evens [] = []
evens (v ∷ []) = v ∷ []
evens (v ∷ a ∷ ws) = v ∷ evens ws

-- "later list pairs move down in order": the words ws of a list page without the three at place j, the words that become free 0
unfoldable pub drop_three : ℕ → List ℕ → List ℕ
drop_three j ws =
    set (take (1 + 6 * j) ws ++ drop (7 + 6 * j) (take (get_or ws 0 0) ws) ++ replicate 6 0 ++ drop (get_or ws 0 0) ws) 0 (get_or ws 0 0 - 6)

module _ (b : ℕ) where
  -- 1: "takes all; fills descriptor; list word 0 is 1; caller's shadow 1 at the first is 1". The five are p, .., l; directory and shadows stay wiped.
  unfoldable pub create : List ℕ → ℕ → List ℕ → ℕ → ℕ → List ℕ
  create m d five p l =
      let m₁ = take_all b m d five in
      let m₂ = fill b m₁ (page_of b (mapping b m d p)) (pairs b m d five ++ (0 ∷ address b d ∷ [])) in
      let m₃ = put b m₂ (page_of b (mapping b m d l)) 0 1 in
      set_lent b m₃ d p 1

  -- the words of d's list, from 1 up to the first free one
  abbrev pub listed : List ℕ → ℕ → List ℕ
  listed m d = take (word b m (list b m d) 0 - 1) (drop 1 (page b m (list b m d)))

  -- the caller's addresses of the child's kernel pages: its own five and the pairs of its list
  abbrev pub kernel_addresses : List ℕ → ℕ → List ℕ
  kernel_addresses m k = evens (take 10 (page b m k)) ++ evens (listed m k)

  -- a page lent to the child is the caller's again, and is returned; the inaccessible ones were kernel pages, of partitions below the child
  abbrev pub release : List ℕ → ℕ → ℕ → List ℕ
  release m d v = return_page b (eqb (accessible (mapping b m d v)) 0) (set_lent b m d v 0) d v

  -- all pages lent to the child at c, among n virtual pages from page i on
  unfoldable pub release_all : ℕ → ℕ → List ℕ → ℕ → ℕ → List ℕ
  release_all zero i m d c = m
  release_all (suc n) i m d c =
      release_all n (suc i) (cond (eqb (lent b m d (address b i)) c) (release m d (address b i)) m) d c

  -- 2: "clears shadow 1 of descriptor and all pages lent to it; returns its kernel pages" and "every page lent to the child" (document 02, L3). The
  -- child's words are read before they are wiped, and of each lent page whether it was a kernel page before it is set accessible.
  unfoldable pub delete : List ℕ → ℕ → ℕ → List ℕ
  delete m d c =
      let kernel = kernel_addresses m (page_of b (mapping b m d c)) in
      let m₁ = release_all (page_words b * page_words b) 0 m d c in
      let m₂ = set_lent b m₁ d c 0 in
      return_all b m₂ d kernel

  -- 3: "maps page at target in the child, accessible, with rights; child's shadow 2 there is page; caller's shadow 1 at page is child"
  unfoldable pub add : List ℕ → ℕ → ℕ → ℕ → ℕ → ℕ → List ℕ
  add m d p c t r =
      let k = page_of b (mapping b m d c) in
      let m₁ = set_mapping b m k t (entry b (page_of b (mapping b m d p)) 1 r) in
      let m₂ = set_above b m₁ k t p in
      set_lent b m₂ d p c

  -- 4: "undoes 3"
  unfoldable pub remove : List ℕ → ℕ → ℕ → ℕ → List ℕ
  remove m d k t =
      let v = above b m k t in
      let m₁ = set_mapping b m k t 0 in
      let m₂ = set_above b m₁ k t 0 in
      set_lent b m₂ d v 0

  -- 6: "takes three chained pages, enters them, appends to list": page table, shadow 1 table, shadow 2 table
  unfoldable pub prepare_three : List ℕ → ℕ → ℕ → ℕ → ℕ → ℕ → ℕ → List ℕ
  prepare_three m d k t p₁ p₂ p₃ =
      let i = directory_index b (page_of b t) in
      let free = word b m (list b m k) 0 in
      let m₁ = take_all b m d (p₁ ∷ p₂ ∷ p₃ ∷ []) in
      let m₂ = put b m₁ (directory b m k) i (address b (page_of b (mapping b m d p₁)) + 1) in
      let m₃ = put b m₂ (shadow1 b m k) i (address b (page_of b (mapping b m d p₂)) + 1) in
      let m₄ = put b m₃ (shadow2 b m k) i (address b (page_of b (mapping b m d p₃)) + 1) in
      let m₅ = overwrite m₄ (index b (list b m k) free) (pairs b m d (p₁ ∷ p₂ ∷ p₃ ∷ [])) in
      put b m₅ (list b m k) 0 (free + 6)

  -- the first of n places, from place j on, of the list page l whose three has its page table at physical address a
  unfoldable pub place_of : ℕ → ℕ → List ℕ → ℕ → ℕ → ℕ
  place_of zero j m l a = j
  place_of (suc n) j m l a = let later = place_of n (suc j) m l a in cond (eqb (word b m l (2 + 6 * j)) a) j later

  -- the place in k's list of the three for target t
  abbrev pub three_place : List ℕ → ℕ → ℕ → ℕ
  three_place m k t = place_of (threes b m k) 0 m (list b m k) (table_for b m k t - 1)

  -- 7: "drops the three, later list pairs move down in order, returns the pages chained again"
  unfoldable pub collect_three : List ℕ → ℕ → ℕ → ℕ → List ℕ
  collect_three m d k t =
      let i = directory_index b (page_of b t) in
      let j = three_place m k t in
      let l = list b m k in
      let v₁ = word b m l (1 + 6 * j) in
      let v₂ = word b m l (3 + 6 * j) in
      let v₃ = word b m l (5 + 6 * j) in
      let m₁ = put b (put b (put b m (directory b m k) i 0) (shadow1 b m k) i 0) (shadow2 b m k) i 0 in
      let m₂ = fill b m₁ l (drop_three j (page b m l)) in
      let m₃ = return_all b m₂ d (v₁ ∷ v₂ ∷ v₃ ∷ []) in
      put b (put b m₃ (page_of b (mapping b m d v₁)) 0 v₂) (page_of b (mapping b m d v₂)) 0 v₃

  -- where the word of a load or a store stands
  abbrev pub word_at : List ℕ → ℕ → ℕ
  word_at m a = index b (page_of b (mapping b m (current b m) a)) (place b a / 4)

  -- document 02, L8: the flag of the caller d becomes x, that of k becomes y, and k is current
  unfoldable pub switch : List ℕ → ℕ → ℕ → ℕ → ℕ → List ℕ
  switch m d k x y = put b (set_flag b (set_flag b m d x) k y) 0 4 (address b k)

  -- 000, of dispatch and notify: "In the calling partition: If target is a child, vcli = 0"; else "a flag for which neither 000 nor this request gives
  -- one stays"
  abbrev pub caller_flag : List ℕ → ℕ → ℕ
  caller_flag m t = cond (eqb t 0) (flag b m (current b m)) 0

  -- "saves them with the caller's old flag and valid 1 in the caller's slot 2 (to a child) or 3 (to its parent)"
  unfoldable pub save : List ℕ → ℕ → ℕ → ℕ → ℕ → Registers → List ℕ
  save m d t e f r = save_in b m d (cond (eqb t 0) to_parent_slot to_child_slot) (e ∷ flag b m d ∷ f ∷ (register_words r ++ (1 ∷ [])))

  -- "clears valid and sets the target's flag to bit 0 of the saved pipflags"; 000: "In the calling partition: vcli = 0". If the parent's slot "isn't valid
  -- the root becomes current with flag 1, the caller's flag is 0, slot words stay".
  unfoldable pub restore : List ℕ → ℕ → ℕ → ℕ → List ℕ
  restore m d k s =
      cond (valid b m k s) (switch (clear_valid b m k s) d k 0 (slot_word b m k s pipflags_place % 2)) (switch m d 1 0 1)

  unfoldable pub effect : List ℕ → Call → List ℕ
  effect m (format_all e) = format (width_of e) (pages_in (width_of e) m)
  effect m (create_partition p d s t l) = create m (current b m) (p ∷ d ∷ s ∷ t ∷ l ∷ []) p l
  effect m (delete_partition c) = delete m (current b m) c
  effect m (add_vaddr p c t r) = add m (current b m) p c t r
  effect m (remove_vaddr c t) = remove m (current b m) (child b m c) t
  effect m (page_count c t) = m
  effect m (prepare c t p) = prepare_three m (current b m) (child b m c) t p (link b m p) (link b m (link b m p))
  effect m (collect c t) = collect_three m (current b m) (child b m c) t
  effect m (mapped_in_child p) = m
  -- 9: "current is child"; 10: "current is parent"
  effect m (enter c) = put b m 0 4 (address b (child b m c))
  effect m leave = put b m 0 4 (address b (parent b m (current b m)))
  effect m (load a) = m
  -- 12: "writes it"
  effect m (store a x) = set m (word_at m a) x
  -- 000, of both: "In the target partition: vcli = 1"; "the target becomes current"
  effect m (notify t e f r) = switch (save m (current b m) t e f r) (current b m) (target b m t) (caller_flag m t) 1
  -- "Dispatch saves nothing."
  effect m (dispatch t) = switch m (current b m) (target b m t) (caller_flag m t) 1
  effect m (resume t s) = restore m (current b m) (target b m t) s
