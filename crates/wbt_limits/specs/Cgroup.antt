-- The available pages of a cgroup.
use Rattle.std.specs.Prelude.{ℕ, ◌+◌, ◌-◌, min}

-- pages that are not dirty
abbrev pub clean_of : (pages dirty : ℕ) → ℕ
clean_of pages dirty = pages - min pages dirty

-- clean pages of the machine that are not the cgroup's
abbrev pub clean_elsewhere : (filepages dirty gavail gdirty : ℕ) → ℕ
clean_elsewhere filepages dirty gavail gdirty =
    clean_of gavail gdirty - min (clean_of gavail gdirty) (clean_of filepages dirty)

-- its file pages, and of the clean pages elsewhere as many as may still be charged to it
abbrev pub available_to_cgroup : (filepages headroom dirty gavail gdirty : ℕ) → ℕ
available_to_cgroup filepages headroom dirty gavail gdirty =
    filepages + min headroom (clean_elsewhere filepages dirty gavail gdirty)
