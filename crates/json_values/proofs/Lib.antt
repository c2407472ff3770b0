mod Inserted
mod Texts
mod Trees
