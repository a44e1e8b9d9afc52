mod Lacking
mod Expired
